-- Questions: a number with what it asks. The number of the first that is answered no is the refusal.
use Rattle.std.specs.Prelude.{◌≡◌, ℕ, Bool, cond, ◌⊎◌, List, [], ◌∷◌, length, take, drop, Some, None, Ok, Err, Option, Result, nat_le}
use Rattle.layout.specs.Numbers.{Bytes}

abbrev pub Question : Type 1
Question = ℕ × Type 0

-- no question is answered no; or the first that is has this number
abbrev pub FirstNo : List Question → Option ℕ → Type 0
FirstNo [] None = Unit {0}
FirstNo [] (Some q) = ⊥
FirstNo (x ∷ xs) None = x.1 × FirstNo xs None
FirstNo (x ∷ xs) (Some q) = ((x.1 → ⊥) × (q ≡ x.0)) ⊎ (x.1 × FirstNo xs (Some q))

-- the question that a result names, if it names one
abbrev pub refusal : {A : Type 0} → Result A ℕ → Option ℕ
refusal (Ok x) = None
refusal (Err q) = Some q

-- ---- readers

-- what a reader answers: a value and the bytes behind it, or the number of a question answered no
abbrev pub Answer : Type 0 → Type 0
Answer A = Result (A × Bytes) ℕ

-- one reader after another
abbrev pub next : {A B : Type 0} → Answer A → (A → Bytes → Answer B) → Answer B
next (Ok p) k = k p.0 p.1
next (Err q) k = Err q

-- goes on with a value that was answered
abbrev pub when_ok : {A B : Type 0} → Result A ℕ → (A → Result B ℕ) → Result B ℕ
when_ok (Ok x) k = k x
when_ok (Err q) k = Err q

-- what is read, without the bytes behind it
abbrev pub front : {A : Type 0} → Answer A → Result A ℕ
front (Ok p) = Ok p.0
front (Err q) = Err q

-- goes on if a question is answered yes
abbrev pub asked : {A : Type 0} → Bool → ℕ → A → Result A ℕ
asked ok q x = cond ok (Ok x) (Err q)

-- so many bytes from the front; 6 if they are not there
abbrev pub part : ℕ → Bytes → Answer Bytes
part n xs = asked (nat_le n (length xs)) 6 (take n xs, drop n xs)
