-- The user word, one group after the other.
use Rattle.std.proofs.Common.{◌≡◌, ℕ, zero, suc, ◌+◌, ◌*◌, ◌%◌, ◌^◌, ◌<◌, ◌≤◌, min, List, [], ◌∷◌, length, get_or, take, refl, ap, ◌∙◌, le_of_suc-le-suc, not-suc-le-zero, add-one, arith, length-take, pow_mono, pow-add}
use Rattle.std.proofs.lemmas.Nat.{shl_whole}
use Rattle.layout.specs.TimeCodes.{user_word}

-- 16 * 2 ^ (4 * i) is 2 ^ (4 * (i + 1))
sixteen : (i : ℕ) → 2 ^ (4 * suc i) ≡ 16 * 2 ^ (4 * i)
sixteen i = ap (λ (k : ℕ). 2 ^ k) (let e : 4 * suc i ≡ 4 + 4 * i = omega arith in e) ∙ pow-add 2 4 (4 * i)

pub user_more : (gs : List ℕ) (i : ℕ) → i < length gs → user_word (take (i + 1) gs) ≡ user_word (take i gs) + min (get_or gs i 0) 15 * 2 ^ (4 * i)
user_more [] i h = absurd (not-suc-le-zero h)
user_more (g ∷ gs) zero h = omega arith
user_more (g ∷ gs) (suc i) h = rw (add-one, sixteen) (omega (arith, rw add-one at (user_more gs i (le_of_suc-le-suc h))))

pub user_below : (gs : List ℕ) → user_word gs < 2 ^ (4 * length gs)
user_below [] = omega arith
user_below (g ∷ gs) = rw sixteen (omega (arith, user_below gs))

-- with the next group at its place the word is that of one group more, and has 32 bits
pub next_group : (gs : List ℕ) (i word n : ℕ) → i < length gs → length gs ≤ 8 → word ≡ user_word (take i gs) → n ≡ min (get_or gs i 0) 15 → word + (n * 2 ^ (4 * i)) % 2 ^ 32 ≡ user_word (take (i + 1) gs)
next_group gs i word n h few word_is n_is =
    let whole : (n * 2 ^ (4 * i)) % 2 ^ 32 ≡ n * 2 ^ (4 * i) = shl_whole n 4 (4 * i) 32 (omega arith) (omega arith) in
    let place : n * 2 ^ (4 * i) ≡ min (get_or gs i 0) 15 * 2 ^ (4 * i) = rw n_is refl in
    omega (arith, user_more gs i h)

fits : (gs : List ℕ) (k : ℕ) → length gs ≤ 8 → user_word (take k gs) < 2 ^ 32
fits gs k few =
    let n : ℕ = length (take k gs) in
    let short : n ≤ 8 = simp length-take (omega arith) in
    let bits : 4 * n ≤ 32 = omega arith in
    let most : 2 ^ (4 * n) ≤ 2 ^ 32 = pow_mono bits in
    omega (arith, user_below (take k gs))

pub next_fits : (gs : List ℕ) (i word n : ℕ) → i < length gs → length gs ≤ 8 → word ≡ user_word (take i gs) → n ≡ min (get_or gs i 0) 15 → word + (n * 2 ^ (4 * i)) % 2 ^ 32 < 2 ^ 32
next_fits gs i word n h few word_is n_is = omega (arith, fits gs (i + 1) few, next_group gs i word n h few word_is n_is)
