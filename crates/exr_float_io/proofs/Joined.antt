-- Fields, and other fields behind them: read and written one after the other.
use Rattle.std.proofs.Common.{◌≡◌, ℕ, List, [], ◌∷◌, ◌++◌, length, Ok, Err, Result, refl, ap, ◌∙◌, append_assoc, arith}
use Rattle.layout.specs.Numbers.{Bytes, whole, low_first}
use Rattle.layout.specs.Questions.{Answer, next, asked, part}
use Rattle.layout.specs.Fields.{Field, fields, field_bytes}

-- a number in front of what is read
abbrev fronted : ℕ → List ℕ → Bytes → Answer (List ℕ)
fronted n ns xs = Ok (n ∷ ns, xs)

module _ (gs : List Field) where
  -- what is read behind some numbers
  abbrev pub behind : List ℕ → Bytes → Answer (List ℕ)
  behind ns xs = next (fields gs xs) (λ ms rest. Ok (ns ++ ms, rest))

  none_before : (a : Answer (List ℕ)) → next a (λ ms rest. Ok (ms, rest)) ≡ a
  none_before (Ok p) = refl
  none_before (Err q) = refl

  one_more : (n : ℕ) (ns : List ℕ) (a : Answer (List ℕ)) → next a (λ ms rest. Ok (n ∷ (ns ++ ms), rest)) ≡ next (next a (λ ms rest. Ok (ns ++ ms, rest))) (fronted n)
  one_more n ns (Ok p) = refl
  one_more n ns (Err q) = refl

  after_one : (n : ℕ) (a : Answer (List ℕ)) → next (next a (fronted n)) behind ≡ next (next a behind) (fronted n)
  after_one n (Ok p) = one_more n p.0 (fields gs p.1)
  after_one n (Err q) = refl

  -- a field in front, where the rest is known
  module _ (f : Field) (fs : List Field) (more : (xs : Bytes) → next (fields fs xs) behind ≡ fields (fs ++ gs) xs) where
    at_asked : (a : Result (Bytes × Bytes) ℕ) → next (next a (λ bs r. next (fields fs r) (fronted (f.keeps (whole bs))))) behind ≡ next a (λ bs r. next (fields (fs ++ gs) r) (fronted (f.keeps (whole bs))))
    at_asked (Ok p) = after_one (f.keeps (whole p.0)) (fields fs p.1) ∙ ap (λ a. next a (fronted (f.keeps (whole p.0)))) (more p.1)
    at_asked (Err q) = refl

    at_part : (a : Answer Bytes) → next (next a (λ bs r. next (asked (f.admits (whole bs)) f.question (bs, r)) (λ bs r. next (fields fs r) (fronted (f.keeps (whole bs)))))) behind ≡ next a (λ bs r. next (asked (f.admits (whole bs)) f.question (bs, r)) (λ bs r. next (fields (fs ++ gs) r) (fronted (f.keeps (whole bs)))))
    at_part (Ok p) = at_asked (asked (f.admits (whole p.0)) f.question p)
    at_part (Err q) = refl

  pub joined : (fs : List Field) (xs : Bytes) → next (fields fs xs) behind ≡ fields (fs ++ gs) xs
  joined [] xs = none_before (fields gs xs)
  joined (f ∷ fs) xs = at_part f fs (joined fs) (part f.width xs)

-- the first is read or refused
pub first_read : (fs gs : List Field) (xs : Bytes) (a : Answer (List ℕ)) → a ≡ fields fs xs → next a (behind gs) ≡ fields (fs ++ gs) xs
first_read fs gs xs a h = ap (λ a. next a (behind gs)) h ∙ joined gs fs xs

-- and then the other
pub both_read : (fs gs : List Field) (xs : Bytes) (ns : List ℕ) (rest : Bytes) (b : Answer (List ℕ)) → Ok (ns, rest) ≡ fields fs xs → b ≡ fields gs rest → next b (λ ms r. Ok (ns ++ ms, r)) ≡ fields (fs ++ gs) xs
both_read fs gs xs ns rest b h k = ap (λ b. next b (λ ms r. Ok (ns ++ ms, r))) k ∙ first_read fs gs xs (Ok (ns, rest)) h

-- they are written one after the other
pub bytes_joined : (fs gs : List Field) (ns ms : List ℕ) → length ns ≡ length fs → field_bytes fs ns ++ field_bytes gs ms ≡ field_bytes (fs ++ gs) (ns ++ ms)
bytes_joined [] gs [] ms h = refl
bytes_joined [] gs (n ∷ ns) ms h = absurd (omega (arith, h))
bytes_joined (f ∷ fs) gs [] ms h = absurd (omega (arith, h))
bytes_joined (f ∷ fs) gs (n ∷ ns) ms h = append_assoc (low_first f.width n) (field_bytes fs ns) (field_bytes gs ms) ∙ ap (λ bs. low_first f.width n ++ bs) (bytes_joined fs gs ns ms (omega (arith, h)))
