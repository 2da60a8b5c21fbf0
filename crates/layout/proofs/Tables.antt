-- A word that is packed by a table has each number at its place.
use Rattle.std.proofs.Common.{◌≡◌, ℕ, zero, suc, ◌+◌, ◌*◌, ◌/◌, ◌%◌, ◌^◌, ◌<◌, List, [], ◌∷◌, length, sym, ap, ◌∙◌, le_of_suc-le-suc, not-suc-le-zero, mul_comm, add_comm, div-one}
use Rattle.std.proofs.lemmas.Nat.{shr-shr, div-mul-add, mod-mul-add}
use Rattle.layout.specs.TimeCodes.{field, pack}

abbrev pub Fit : List (ℕ × ℕ) → Type 0
Fit [] = Unit {0}
Fit (e ∷ rest) = (e.1 < 2 ^ e.0) × Fit rest

abbrev pub start : List (ℕ × ℕ) → ℕ → ℕ
start [] k = 0
start (e ∷ rest) zero = 0
start (e ∷ rest) (suc k) = e.0 + start rest k

abbrev pub width : List (ℕ × ℕ) → ℕ → ℕ
width [] k = 0
width (e ∷ rest) zero = e.0
width (e ∷ rest) (suc k) = width rest k

abbrev pub value : List (ℕ × ℕ) → ℕ → ℕ
value [] k = 0
value (e ∷ rest) zero = e.1
value (e ∷ rest) (suc k) = value rest k

turned : (v w p : ℕ) → v + w * p ≡ p * w + v
turned v w p = add_comm v (w * p) ∙ ap (λ (x : ℕ). x + v) (mul_comm w p)

pub field_pack : (xs : List (ℕ × ℕ)) (k : ℕ) → k < length xs → Fit xs → field (start xs k) (width xs k) (pack xs) ≡ value xs k
field_pack [] k h f = absurd (not-suc-le-zero h)
field_pack (e ∷ rest) zero h f =
    ap (λ (n : ℕ). n / 2 ^ 0 % 2 ^ e.0) (turned e.1 (2 ^ e.0) (pack rest))
    ∙ ap (λ (n : ℕ). n % 2 ^ e.0) (div-one (pack rest * 2 ^ e.0 + e.1))
    ∙ mod-mul-add (pack rest) (2 ^ e.0) e.1 f.0
field_pack (e ∷ rest) (suc k) h f =
    let w : ℕ = 2 ^ e.0 in
    ap (λ (n : ℕ). n % 2 ^ width rest k)
    (sym (shr-shr (e.1 + w * pack rest) e.0 (start rest k))
    ∙ ap (λ (n : ℕ). n / 2 ^ start rest k) (ap (λ (n : ℕ). n / w) (turned e.1 w (pack rest)) ∙ div-mul-add (pack rest) w e.1 f.0))
    ∙ field_pack rest k (le_of_suc-le-suc h) f.1
