-- The laws of texts with their lengths.
use Rattle.std.proofs.Common.{◌≡◌, ℕ, zero, suc, ◌<◌, ◌≤◌, Bool, true, leb, List, [], ◌∷◌, ◌++◌, length, take, drop, Ok, Err, Option, Result, sym, refl, ap, ◌∙◌, subst, inl, append_assoc, not-suc-le-zero, arith, length-append}
use Rattle.std.proofs.lemmas.Bool.{leb-true, le-leb}
use Rattle.layout.specs.Numbers.{Bytes, whole, range, low_first}
use Rattle.layout.specs.Questions.{Answer, next, asked, part}
use Rattle.layout.specs.Questions.{Question, FirstNo, refusal}
use Rattle.layout.specs.Texts.{counted, onto, go_on, texts_in, counted_bytes, texts_bytes, CountedIs, TextsAre, counted_questions, texts_questions}
use Rattle.layout.proofs.Numbered.{length-low_first, whole-low_first}
use Rattle.layout.proofs.Reading.{Sees, sees_next, sees_asked, Exactly, part_sees, part_back, no_more, all_then, Asks, asks_next, asks_asked, part_asks}

pub counted_sees : (most size : ℕ) (xs : Bytes) → Sees (CountedIs most size) xs (counted most size xs)
unfolding counted CountedIs
counted_sees most size xs =
    sees_next (Exactly 4) (CountedIs most size) xs (part 4 xs) _ (part_sees 4 xs) (λ b bs r e s.
    sees_asked (CountedIs most size) xs (leb (whole b) most) 10 (b, r) _ (λ ok.
    sees_asked (CountedIs most size) xs (leb (whole b) size) 10 (b, r) _ (λ ok'.
    last b bs r e s (leb-true (whole b) most ok) (leb-true (whole b) size ok') (part (whole b) r) (part_sees (whole b) r))))
  where
    last : (b bs r : Bytes) → xs ≡ bs ++ r → Exactly 4 b bs → whole b ≤ most → whole b ≤ size → (a : Answer Bytes) → Sees (Exactly (whole b)) r a → Sees (CountedIs most size) xs a
    last b bs r e s m z (Err q) t = tt
    last b bs r e s m z (Ok p) (cs, e', (same, long)) = (
      bs ++ cs,
      e ∙ ap (λ (t : Bytes). bs ++ t) e' ∙ sym (append_assoc bs cs p.1),
      (b, (λ i. s.0 i ++ same i), s.1, sym long, omega (arith, long), omega (arith, long)),
    )

pub counted_back : (most size : ℕ) (t xs rest : Bytes) → CountedIs most size t xs → counted most size (xs ++ rest) ≡ Ok (t, rest)
unfolding counted CountedIs
counted_back most size t xs rest (bs, e, four, n, small, fits) =
    let m : leb (whole bs) most ≡ true = le-leb (whole bs) most (omega (arith, n)) in
    let z : leb (whole bs) size ≡ true = le-leb (whole bs) size (omega (arith, n)) in
    ap (λ (t : Bytes). counted most size t) (ap (λ (t : Bytes). t ++ rest) e ∙ append_assoc bs t rest)
    ∙ ap (λ (a : Answer Bytes). next a (λ bs r. next (asked (leb (whole bs) most) 10 (bs, r)) (λ bs r.
    next (asked (leb (whole bs) size) 10 (bs, r)) (λ bs r. part (whole bs) r)))) (part_back 4 bs (t ++ rest) four)
    ∙ ap (λ (b : Bool). next (asked b 10 (bs, t ++ rest)) (λ bs r. next (asked (leb (whole bs) size) 10 (bs, r)) (λ bs r. part (whole bs) r))) m
    ∙ ap (λ (b : Bool). next (asked b 10 (bs, t ++ rest)) (λ bs r. part (whole bs) r)) z
    ∙ part_back (whole bs) t rest (sym n)

pub counted_written : (most size : ℕ) (t : Bytes) → length t < range 4 → length t ≤ most → length t ≤ size → CountedIs most size t (counted_bytes t)
unfolding CountedIs
counted_written most size t small m z = (low_first 4 (length t), refl, length-low_first 4 (length t), whole-low_first 4 (length t) small, m, z)

pub counted_asks : (most size : ℕ) (xs : Bytes) →
    Asks (counted_questions most size xs) (take (whole (take 4 xs)) (drop 4 xs)) (drop (whole (take 4 xs)) (drop 4 xs)) (counted most size xs)
unfolding counted
counted_asks most size xs =
    let b : Bytes = take 4 xs in
    let r : Bytes = drop 4 xs in
    let n : ℕ = whole (take 4 xs) in
    let t : Bytes = take n r in
    let z : Bytes = drop n r in
    let q1 : List Question = (6, n ≤ length r) ∷ [] in
    let q2 : List Question = (10, n ≤ size) ∷ q1 in
    let q3 : List Question = (10, n ≤ most) ∷ q2 in
    asks_next ((6, 4 ≤ length xs) ∷ []) q3 b t r z (part 4 xs) _ (part_asks 4 xs)
    (asks_next ((10, n ≤ most) ∷ []) q2 b t r z (asked (leb n most) 10 (b, r)) _ (asks_asked (n ≤ most) (leb n most) 10 b r (leb-true n most) (le-leb n most))
    (asks_next ((10, n ≤ size) ∷ []) q1 b t r z (asked (leb n size) 10 (b, r)) _ (asks_asked (n ≤ size) (leb n size) 10 b r (leb-true n size) (le-leb n size))
    (part_asks n r)))

-- ---- lists

abbrev pub SeesTexts : ℕ → Bytes → Result (List Bytes) ℕ → Type 0
SeesTexts size xs (Ok ts) = TextsAre size ts xs
SeesTexts size xs (Err q) = Unit {0}

sees_onto : (size : ℕ) (xs : Bytes) (a : Answer Bytes) (k : Bytes → Result (List Bytes) ℕ) → Sees (CountedIs 2147483647 size) xs a →
    ((r : Bytes) → SeesTexts size r (k r)) → SeesTexts size xs (go_on a (λ t r. onto t (k r)))
unfolding TextsAre
sees_onto size xs (Err q) k s then = tt
sees_onto size xs (Ok p) k (bs, e, is) then = at (k p.1) (then p.1)
  where
    at : (o : Result (List Bytes) ℕ) → SeesTexts size p.1 o → SeesTexts size xs (onto p.0 o)
    at (Ok ts) are = (bs, p.1, e, is, are)
    at (Err q) are = tt

pub texts_sees : (k size : ℕ) (xs : Bytes) → SeesTexts size xs (texts_in k size xs)
unfolding texts_in TextsAre
texts_sees zero size [] = refl
texts_sees (suc k) size [] = refl
texts_sees zero size (b ∷ xs) = tt
texts_sees (suc k) size (b ∷ xs) =
    sees_onto size (b ∷ xs) (counted 2147483647 size (b ∷ xs)) (texts_in k size) (counted_sees 2147483647 size (b ∷ xs)) (λ r. texts_sees k size r)

-- a text takes four bytes at least
pub four_bytes : (most size : ℕ) (t xs : Bytes) → CountedIs most size t xs → 4 ≤ length xs
unfolding CountedIs
four_bytes most size t xs (bs, e, four, n, m, z) = let l : length xs ≡ length (bs ++ t) = ap length e in omega (arith, length-append bs t)

pub texts_back : (k size : ℕ) (ts : List Bytes) (xs : Bytes) → length xs ≤ k → TextsAre size ts xs → texts_in k size xs ≡ Ok ts
unfolding TextsAre texts_in
texts_back k size [] xs h are = ap (texts_in k size) are ∙ none k
  where
    none : (k : ℕ) → texts_in k size [] ≡ Ok []
    none zero = refl
    none (suc k) = refl
texts_back k size (t ∷ ts) xs h (bs, rest, e, is, are) =
    let l : length xs ≡ length (bs ++ rest) = ap length e in
    let l' = length-append bs rest in
    let f = four_bytes 2147483647 size t bs is in
    step k xs h (omega arith) (ap (counted 2147483647 size) e ∙ counted_back 2147483647 size t bs rest is) (λ j g. texts_back j size ts rest (omega arith) are)
  where
    step : (k : ℕ) (xs : Bytes) → length xs ≤ k → length rest < length xs → counted 2147483647 size xs ≡ Ok (t, rest) →
        ((j : ℕ) → k ≤ suc j → texts_in j size rest ≡ Ok ts) → texts_in k size xs ≡ Ok (t ∷ ts)
    step zero [] h s e ih = absurd (not-suc-le-zero s)
    step (suc k) [] h s e ih = absurd (not-suc-le-zero s)
    step zero (b ∷ xs) h s e ih = absurd (not-suc-le-zero h)
    step (suc k) (b ∷ xs) h s e ih =
        ap (λ (a : Answer Bytes). go_on a (λ t r. onto t (texts_in k size r))) e ∙ ap (onto t) (ih k (omega arith))

pub texts_written : (size : ℕ) (ts : List Bytes) → length (texts_bytes ts) ≤ size → size ≤ 40960 → TextsAre size ts (texts_bytes ts)
unfolding TextsAre texts_bytes
texts_written size [] h s = refl
texts_written size (t ∷ ts) h s =
    let l = length-append (counted_bytes t) (texts_bytes ts) in
    let m = length-append (low_first 4 (length t)) t in
    (counted_bytes t, texts_bytes ts, refl, counted_written 2147483647 size t (omega arith) (omega arith) (omega arith), texts_written size ts (omega arith) s)

asks_onto : (qs rs : List Question) (t then : Bytes) (a : Answer Bytes) (k : Bytes → Result (List Bytes) ℕ) → Asks qs t then a → FirstNo rs (refusal (k then)) →
    FirstNo (qs ++ rs) (refusal (go_on a (λ t r. onto t (k r))))
asks_onto qs rs t then (Err q) k s f = no_more qs rs q s
asks_onto qs rs t then (Ok p) k s f =
    subst (λ (r : Bytes). FirstNo (qs ++ rs) (refusal (onto p.0 (k r)))) (sym s.2)
    (subst (λ (o : Option ℕ). FirstNo (qs ++ rs) o) (same p.0 (k then)) (all_then qs rs (refusal (k then)) s.0 f))
  where
    same : (t : Bytes) (o : Result (List Bytes) ℕ) → refusal o ≡ refusal (onto t o)
    same t (Ok ts) = refl
    same t (Err q) = refl

pub texts_asks : (k size : ℕ) (xs : Bytes) → FirstNo (texts_questions k size xs) (refusal (texts_in k size xs))
unfolding texts_in texts_questions
texts_asks zero size [] = tt
texts_asks (suc k) size [] = tt
texts_asks zero size (b ∷ xs) = inl ((λ h. omega arith), refl)
texts_asks (suc k) size (b ∷ xs) =
    let n : ℕ = whole (take 4 (b ∷ xs)) in
    let r : Bytes = drop 4 (b ∷ xs) in
    asks_onto (counted_questions 2147483647 size (b ∷ xs)) (texts_questions k size (drop n r)) (take n r) (drop n r) (counted 2147483647 size (b ∷ xs)) (texts_in k size)
    (counted_asks 2147483647 size (b ∷ xs)) (texts_asks k size (drop n r))
