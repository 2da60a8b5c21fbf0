-- Texts one after the other, each with its length, and a hint with the bytes behind it.
use Rattle.std.specs.Prelude.{◌≡◌, ℕ, zero, suc, ◌<◌, ◌≤◌, List, [], ◌∷◌, ◌++◌, length, take, drop, Ok, Err, Result, nat_le}
use Rattle.layout.specs.Numbers.{Bytes, whole, low_first}
use Rattle.layout.specs.Questions.{Answer, next, asked, part}
use Rattle.layout.specs.Questions.{Question}

-- so many bytes behind a length of four bytes, which is at most some greatest, and at most the value's size
unfoldable pub counted : ℕ → ℕ → Bytes → Answer Bytes
counted most size xs =
    next (part 4 xs) (λ bs r. next (asked (nat_le (whole bs) most) 10 (bs, r)) (λ bs r.
    next (asked (nat_le (whole bs) size) 10 (bs, r)) (λ bs r. part (whole bs) r)))

-- the rest of a list after its first
abbrev pub onto : Bytes → Result (List Bytes) ℕ → Result (List Bytes) ℕ
onto t (Ok ts) = Ok (t ∷ ts)
onto t (Err q) = Err q

abbrev pub go_on : {A : Type 0} → Answer Bytes → (Bytes → Bytes → Result A ℕ) → Result A ℕ
go_on (Ok p) k = k p.0 p.1
go_on (Err q) k = Err q

-- texts to the end, of which there are at most so many
unfoldable pub texts_in : ℕ → ℕ → Bytes → Result (List Bytes) ℕ
texts_in k size [] = Ok []
texts_in zero size (b ∷ xs) = Err 6
texts_in (suc k) size (b ∷ xs) = go_on (counted 2147483647 size (b ∷ xs)) (λ t r. onto t (texts_in k size r))

abbrev pub texts : Bytes → Result (List Bytes) ℕ
texts xs = texts_in (length xs) (length xs) xs

abbrev pub counted_bytes : Bytes → Bytes
counted_bytes t = low_first 4 (length t) ++ t

unfoldable pub texts_bytes : List Bytes → Bytes
texts_bytes [] = []
texts_bytes (t ∷ ts) = counted_bytes t ++ texts_bytes ts

-- ---- what the bytes mean

unfoldable pub CountedIs : ℕ → ℕ → Bytes → Bytes → Type 0
CountedIs most size t xs = (bs : Bytes) × (xs ≡ bs ++ t) × (length bs ≡ 4) × (whole bs ≡ length t) × (length t ≤ most) × (length t ≤ size)

unfoldable pub TextsAre : ℕ → List Bytes → Bytes → Type 0
TextsAre size [] xs = xs ≡ []
TextsAre size (t ∷ ts) xs = (bs : Bytes) × (rest : Bytes) × (xs ≡ bs ++ rest) × CountedIs 2147483647 size t bs × TextsAre size ts rest

-- ---- the questions

abbrev pub counted_questions : ℕ → ℕ → Bytes → List Question
counted_questions most size xs =
    (6, 4 ≤ length xs) ∷ (10, whole (take 4 xs) ≤ most) ∷ (10, whole (take 4 xs) ≤ size)
    ∷ (6, whole (take 4 xs) ≤ length (drop 4 xs)) ∷ []

unfoldable pub texts_questions : ℕ → ℕ → Bytes → List Question
texts_questions k size [] = []
texts_questions zero size (b ∷ xs) = (6, 0 < 0) ∷ []
texts_questions (suc k) size (b ∷ xs) =
    counted_questions 2147483647 size (b ∷ xs) ++ texts_questions k size (drop (whole (take 4 (b ∷ xs))) (drop 4 (b ∷ xs)))
