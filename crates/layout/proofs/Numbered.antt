-- The laws of numbers as bytes.
use Rattle.std.proofs.Common.{◌≡◌, ℕ, zero, suc, ◌+◌, ◌*◌, ◌/◌, ◌%◌, ◌<◌, Bool, true, false, ◌&&◌, ltb, [], ◌∷◌, ◌++◌, length, take, drop, refl, ap, ◌∙◌, arith, ltb-true, lt-ltb}
use Rattle.std.proofs.lemmas.Nat.{div-add-mod', div_below}
use Rattle.layout.specs.Numbers.{Bytes, all_bytes, EachByte, whole, range, low_first, NumbersAsBytes}

-- ---- each of some bytes

both : (p q : Bool) → p ≡ true → q ≡ true → (p && q) ≡ true
both true q h k = k
both false q h k = h

pub first_byte : (b : ℕ) (bs : Bytes) → EachByte (b ∷ bs) → b < 256
first_byte b bs h = ltb-true b 256 (front (ltb b 256) (all_bytes bs) h)
  where
    front : (p q : Bool) → (p && q) ≡ true → p ≡ true
    front true q h = refl
    front false q h = h

pub rest_bytes : (b : ℕ) (bs : Bytes) → EachByte (b ∷ bs) → EachByte bs
rest_bytes b bs h = back (ltb b 256) (all_bytes bs) h
  where
    back : (p q : Bool) → (p && q) ≡ true → q ≡ true
    back true q h = h
    back false q h = cc

pub tested_before : (b : ℕ) (bs : Bytes) → ltb b 256 ≡ true → EachByte bs → EachByte (b ∷ bs)
tested_before b bs h k = both (ltb b 256) (all_bytes bs) h k

pub byte_before : (b : ℕ) (bs : Bytes) → b < 256 → EachByte bs → EachByte (b ∷ bs)
byte_before b bs h k = tested_before b bs (lt-ltb b 256 h) k

pub bytes_append : (xs ys : Bytes) → EachByte xs → EachByte ys → EachByte (xs ++ ys)
bytes_append [] ys h k = k
bytes_append (x ∷ xs) ys h k = byte_before x (xs ++ ys) (first_byte x xs h) (bytes_append xs ys (rest_bytes x xs h) k)

pub bytes_front : (xs ys : Bytes) → EachByte (xs ++ ys) → EachByte xs
bytes_front [] ys h = refl
bytes_front (x ∷ xs) ys h = byte_before x xs (first_byte x (xs ++ ys) h) (bytes_front xs ys (rest_bytes x (xs ++ ys) h))

pub bytes_behind : (xs ys : Bytes) → EachByte (xs ++ ys) → EachByte ys
bytes_behind [] ys h = h
bytes_behind (x ∷ xs) ys h = bytes_behind xs ys (rest_bytes x (xs ++ ys) h)

pub bytes_drop : (n : ℕ) (xs : Bytes) → EachByte xs → EachByte (drop n xs)
bytes_drop zero xs h = h
bytes_drop (suc n) [] h = refl
bytes_drop (suc n) (x ∷ xs) h = bytes_drop n xs (rest_bytes x xs h)

pub bytes_take : (n : ℕ) (xs : Bytes) → EachByte xs → EachByte (take n xs)
bytes_take zero xs h = refl
bytes_take (suc n) [] h = refl
bytes_take (suc n) (x ∷ xs) h = byte_before x (take n xs) (first_byte x xs h) (bytes_take n xs (rest_bytes x xs h))

pub bytes_push : (xs : Bytes) (b : ℕ) → EachByte xs → b < 256 → EachByte (xs ++ (b ∷ []))
bytes_push xs b h k = bytes_append xs (b ∷ []) h (byte_before b [] k refl)

-- ---- numbers

pub length-low_first : (w n : ℕ) → length (low_first w n) ≡ w
length-low_first zero n = refl
length-low_first (suc w) n = ap suc (length-low_first w (n / 256))

pub bytes_low_first : (w n : ℕ) → EachByte (low_first w n)
bytes_low_first zero n = refl
bytes_low_first (suc w) n = byte_before (n % 256) (low_first w (n / 256)) (omega arith) (bytes_low_first w (n / 256))

pub whole-low_first : (w n : ℕ) → n < range w → whole (low_first w n) ≡ n
whole-low_first zero n h = omega arith
whole-low_first (suc w) n h =
    let small : n / 256 < range w = div_below n 256 (range w) (omega arith) (omega arith) in
    let ih : whole (low_first w (n / 256)) ≡ n / 256 = whole-low_first w (n / 256) small in
    omega (arith, div-add-mod' n 256)

pub whole_fits : (bs : Bytes) → EachByte bs → whole bs < range (length bs)
whole_fits [] h = omega arith
whole_fits (b ∷ bs) h = omega (arith, first_byte b bs h, whole_fits bs (rest_bytes b bs h))

pub low_first-whole : (bs : Bytes) → EachByte bs → low_first (length bs) (whole bs) ≡ bs
low_first-whole [] h = refl
low_first-whole (b ∷ bs) h =
    let low : b < 256 = first_byte b bs h in
    let digit : (b + 256 * whole bs) % 256 ≡ b = omega (arith, low) in
    let above : (b + 256 * whole bs) / 256 ≡ whole bs = omega (arith, low) in
    ap (λ n. n ∷ low_first (length bs) ((b + 256 * whole bs) / 256)) digit
    ∙ ap (λ n. b ∷ low_first (length bs) n) above
    ∙ ap (λ t. b ∷ t) (low_first-whole bs (rest_bytes b bs h))

pub numbers_as_bytes : NumbersAsBytes
numbers_as_bytes = record { long = length-low_first; bytes = bytes_low_first; back = whole-low_first; fits = whole_fits; same = low_first-whole }
