-- A kept byte is below 256, so the meaning with it is as proper as what is below.
use Rattle.std.specs.Prelude.{◌≡◌, ℕ, Bool, true, Some, None, Option, nat_lt}
use Rattle.layout.specs.Streams.{SourceMeaning, Proper, kept_before}
use Rattle.layout.proofs.Numbered.{tested_before}

abbrev pub kept_below : Option ℕ → Bool
kept_below None = true
kept_below (Some b) = nat_lt b 256

pub kept_proper : (o : Option ℕ) (m : SourceMeaning) → kept_below o ≡ true → Proper m → Proper (kept_before o m)
kept_proper None m h p = p
kept_proper (Some b) m h p = record { bytes = tested_before b m.bytes h p.bytes; number = p.number }
