-- The meaning of a chain is as proper as those of its two sources.
use Rattle.std.specs.Prelude.{◌≡◌, ℕ, true, Some, None, Option}
use Rattle.layout.specs.Numbers.{Bytes, EachByte}
use Rattle.layout.specs.Streams.{SourceMeaning, is_numbered, Proper, chained, chained_at}
use Rattle.layout.proofs.Numbered.{bytes_append}

at : (s : Option ℕ) (bs : Bytes) (n : SourceMeaning) → EachByte bs → is_numbered s ≡ true → Proper n → Proper (chained_at s bs n)
at None bs n h k p = record { bytes = bytes_append bs n.bytes h p.bytes; number = p.number }
at (Some d) bs n h k p = record { bytes = h; number = k }

pub chained_proper : (m n : SourceMeaning) → Proper m → Proper n → Proper (chained m n)
chained_proper m n p q = at m.stop m.bytes n p.bytes p.number q
