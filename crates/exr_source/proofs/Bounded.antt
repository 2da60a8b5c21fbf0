-- What the type of bytes gives, as the layout states it.
use Rattle.std.proofs.Common.{ℕ, suc, ◌<◌, [], ◌∷◌, get_or, refl}
use Rattle.layout.specs.Numbers.{Bytes, EachByte}
use Rattle.layout.proofs.Numbered.{byte_before}

pub each_by_type : (bs : Bytes) → ((i : ℕ) → get_or bs i 0 < 256) → EachByte bs
each_by_type [] h = refl
each_by_type (b ∷ bs) h = byte_before b bs (h 0) (each_by_type bs (λ i. h (suc i)))
