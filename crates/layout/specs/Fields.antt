-- Numbers of fixed width, one directly after the other: how they are laid out, read, written and asked about.
use Rattle.std.specs.Prelude.{◌≡◌, ℕ, zero, suc, ◌+◌, ◌<◌, ◌≤◌, Bool, true, List, [], ◌∷◌, ◌++◌, length, take, drop, replicate, Some, Ok, Err, nat_le}
use Rattle.layout.specs.Numbers.{Bytes, EachByte, whole, range, low_first}
use Rattle.layout.specs.Questions.{Question, FirstNo, Answer, next, asked, part}
use Rattle.layout.specs.Floats.{single, double}

-- a field has so many bytes; a question about its number; and what a value keeps of the number
pub record Field : Type 0 where
  pub width : ℕ
  pub question : ℕ
  pub admits : ℕ → Bool
  pub keeps : ℕ → ℕ

abbrev pub any : ℕ → Bool
any n = true

-- four bytes of which nothing is asked, and what is kept of their number
abbrev pub word : (ℕ → ℕ) → Field
word keeps = record { width = 4; question = 6; admits = any; keeps = keeps }

-- an integer of four bytes, by its bits: nothing is asked of it, and all of it is kept
abbrev pub i32 : Field
i32 = record { width = 4; question = 6; admits = any; keeps = λ n. n }

abbrev pub u32 : Field
u32 = word (λ n. n)

-- floats by their bits: all that is not a number is one
abbrev pub f32 : Field
f32 = word single

abbrev pub f64 : Field
f64 = record { width = 8; question = 6; admits = any; keeps = double }

-- a byte that is read as anything and written 00
abbrev pub reserved : Field
reserved = record { width = 1; question = 6; admits = any; keeps = λ n. 0 }

-- a number that is at most some greatest
abbrev pub up_to : ℕ → ℕ → ℕ → Field
up_to width question most = record { width = width; question = question; admits = λ n. nat_le n most; keeps = λ n. n }

-- ---- reading and writing

abbrev pub fields : List Field → Bytes → Answer (List ℕ)
fields [] xs = Ok ([], xs)
fields (f ∷ fs) xs =
    next (part f.width xs) (λ bs r. next (asked (f.admits (whole bs)) f.question (bs, r)) (λ bs r.
    next (fields fs r) (λ ns r. Ok (f.keeps (whole bs) ∷ ns, r))))

-- the same where all fields are integers of four bytes: so many numbers, one directly after the other
abbrev pub integers : ℕ → Bytes → Answer (List ℕ)
integers zero xs = Ok ([], xs)
integers (suc k) xs = next (part 4 xs) (λ bs r. next (integers k r) (λ ns r. Ok (whole bs ∷ ns, r)))

-- the same where all fields are words of one sort
abbrev pub words : (ℕ → ℕ) → ℕ → Bytes → Answer (List ℕ)
words keeps zero xs = Ok ([], xs)
words keeps (suc k) xs = next (part 4 xs) (λ bs r. next (words keeps k r) (λ ns r. Ok (keeps (whole bs) ∷ ns, r)))

abbrev pub singles : ℕ → Bytes → Answer (List ℕ)
singles = words single

abbrev pub field_bytes : List Field → List ℕ → Bytes
field_bytes [] ns = []
field_bytes (f ∷ fs) [] = []
field_bytes (f ∷ fs) (n ∷ ns) = low_first f.width n ++ field_bytes fs ns

-- ---- what bytes mean

-- just these bytes are the numbers
unfoldable pub Numbers : List Field → List ℕ → Bytes → Type 0
Numbers [] [] xs = xs ≡ []
Numbers [] (n ∷ ns) xs = ⊥
Numbers (f ∷ fs) [] xs = ⊥
Numbers (f ∷ fs) (n ∷ ns) xs =
    (bs : Bytes) × (rest : Bytes) × (xs ≡ bs ++ rest) × (length bs ≡ f.width)
    × (f.admits (whole bs) ≡ true) × (n ≡ f.keeps (whole bs)) × Numbers fs ns rest

-- the numbers that a value can hold
unfoldable pub Held : List Field → List ℕ → Type 0
Held [] [] = Unit {0}
Held [] (n ∷ ns) = ⊥
Held (f ∷ fs) [] = ⊥
Held (f ∷ fs) (n ∷ ns) = (n < range f.width) × (f.admits n ≡ true) × (f.keeps n ≡ n) × Held fs ns

-- how many bytes the fields have
abbrev pub size : List Field → ℕ
size [] = 0
size (f ∷ fs) = f.width + size fs

-- the questions, field by field: are its bytes there, and is its number admitted?
unfoldable pub field_questions : List Field → Bytes → List Question
field_questions [] xs = []
field_questions (f ∷ fs) xs =
    (6, f.width ≤ length xs) ∷ (f.question, f.admits (whole (take f.width xs)) ≡ true) ∷ field_questions fs (drop f.width xs)

-- the numbers at the front of some bytes
unfoldable pub numbers_at : List Field → Bytes → List ℕ
numbers_at [] xs = []
numbers_at (f ∷ fs) xs = f.keeps (whole (take f.width xs)) ∷ numbers_at fs (drop f.width xs)

-- ---- the laws

pub record FieldsStand : Type 0 where
  -- numbers are read exactly where the front is these numbers, and the rest is what stands behind them
  pub reads : (fs : List Field) (ns : List ℕ) (xs rest : Bytes) → fields fs xs ≡ Ok (ns, rest) → (bs : Bytes) × (xs ≡ bs ++ rest) × Numbers fs ns bs
  pub read : (fs : List Field) (ns : List ℕ) (bs rest : Bytes) → Numbers fs ns bs → fields fs (bs ++ rest) ≡ Ok (ns, rest)
  -- integers are such fields
  pub integers_are : (k : ℕ) (xs : Bytes) → fields (replicate k i32) xs ≡ integers k xs
  -- and so are words of one sort
  pub words_are : (keeps : ℕ → ℕ) (k : ℕ) (xs : Bytes) → fields (replicate k (word keeps)) xs ≡ words keeps k xs
  -- a refusal names the first question answered no
  pub asks : (fs : List Field) (xs : Bytes) (q : ℕ) → fields fs xs ≡ Err q → FirstNo (field_questions fs xs) (Some q)
  -- what is written is the numbers, in as many bytes as the fields have, each below 256
  pub written : (fs : List Field) (ns : List ℕ) → Held fs ns → Numbers fs ns (field_bytes fs ns)
  pub sized : (fs : List Field) (ns : List ℕ) → Held fs ns → length (field_bytes fs ns) ≡ size fs
  pub bytes : (fs : List Field) (ns : List ℕ) → EachByte (field_bytes fs ns)
