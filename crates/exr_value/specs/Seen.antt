-- What a reader of the code answers, as the layout has it.
use Rattle.std.specs.Prelude.{ℕ, Ok, Err, Result}
use Rattle.std.specs.Borrow.{Bor}
use Rattle.exr_error.specs.declared.refusal.Refusal.{Refusal}
use Rattle.exr_error.specs.Refusals.{number_of}
use Rattle.layout.specs.Numbers.{Bytes, whole}
use Rattle.layout.specs.Questions.{Answer, next, part}

-- a value by its meaning with the bytes behind it, or the number of the refusal
abbrev pub seen_by : {A B : Type 0} → (A → B) → Result (A × Bor Bytes) Refusal → Answer B
seen_by f (Ok p) = Ok (f p.0, p.1.now)
seen_by f (Err e) = Err (number_of e)

-- the number of w bytes, the lowest first
abbrev pub number_at : ℕ → Bytes → Answer ℕ
number_at w xs = next (part w xs) (λ bs r. Ok (whole bs, r))

-- the number of four bytes
abbrev pub word : Bytes → Answer ℕ
word xs = number_at 4 xs
