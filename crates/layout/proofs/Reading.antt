-- How readers one after the other are proved: what they see, and what they ask.
use Rattle.std.proofs.Common.{◌≡◌, ℕ, ◌≤◌, Bool, true, false, leb, List, [], ◌∷◌, ◌++◌, length, take, drop, Some, None, Ok, Err, Option, sym, refl, ap, ◌∙◌, subst, inl, inr, append_assoc, arith, length-append, take-append-drop, length-take-le, take_at, drop_at}
use Rattle.std.proofs.lemmas.Bool.{leb-true, le-leb, both_ways}
use Rattle.layout.specs.Numbers.{Bytes}
use Rattle.layout.specs.Questions.{Question, FirstNo, Answer, next, asked, part}

-- ---- what a reader sees: the value stands at the front, and the rest is answered

abbrev pub Sees : {A : Type 0} → (A → Bytes → Type 0) → Bytes → Answer A → Type 0
Sees L xs (Ok p) = (bs : Bytes) × (xs ≡ bs ++ p.1) × L p.0 bs
Sees L xs (Err q) = Unit {0}

pub sees_next : {A B : Type 0} (L : A → Bytes → Type 0) (M : B → Bytes → Type 0) (xs : Bytes) (a : Answer A) (k : A → Bytes → Answer B) →
    Sees L xs a → ((x : A) (bs r : Bytes) → xs ≡ bs ++ r → L x bs → Sees M xs (k x r)) → Sees M xs (next a k)
sees_next L M xs (Ok p) k s then = then p.0 s.0 p.1 s.1 s.2
sees_next L M xs (Err q) k s then = tt

pub sees_asked : {A B : Type 0} (M : B → Bytes → Type 0) (xs : Bytes) (t : Bool) (q : ℕ) (x : A × Bytes) (k : A → Bytes → Answer B) →
    (t ≡ true → Sees M xs (k x.0 x.1)) → Sees M xs (next (asked t q x) k)
sees_asked M xs true q x k then = then refl
sees_asked M xs false q x k then = tt

-- the last of several: its value is made of the earlier ones' and its own
pub sees_last : {A B : Type 0} (L : A → Bytes → Type 0) (M : B → Bytes → Type 0) (xs bs r : Bytes) (a : Answer A) (g : A → B) →
    xs ≡ bs ++ r → Sees L r a → ((x : A) (cs : Bytes) → L x cs → M (g x) (bs ++ cs)) → Sees M xs (next a (λ x r. Ok (g x, r)))
sees_last L M xs bs r (Ok p) g e s made =
    (bs ++ s.0, e ∙ ap (λ (t : Bytes). bs ++ t) s.1 ∙ sym (append_assoc bs s.0 p.1), made p.0 s.0 s.2)
sees_last L M xs bs r (Err q) g e s made = tt

abbrev pub Exactly : ℕ → Bytes → Bytes → Type 0
Exactly n b bs = (bs ≡ b) × (length b ≡ n)

pub part_sees : (n : ℕ) (xs : Bytes) → Sees (Exactly n) xs (part n xs)
part_sees n xs = at (leb n (length xs)) refl
  where
    at : (t : Bool) → leb n (length xs) ≡ t → Sees (Exactly n) xs (asked t 6 (take n xs, drop n xs))
    at true e = (take n xs, sym (take-append-drop n xs), (refl, length-take-le n xs (leb-true n (length xs) e)))
    at false e = tt

pub part_back : (n : ℕ) (bs rest : Bytes) → length bs ≡ n → part n (bs ++ rest) ≡ Ok (bs, rest)
part_back n bs rest e =
    let long : n ≤ length (bs ++ rest) = omega (arith, length-append bs rest) in
    ap (λ (t : Bool). asked t 6 (take n (bs ++ rest), drop n (bs ++ rest))) (le-leb n (length (bs ++ rest)) long)
    ∙ (λ i. Ok (take_at bs rest n e i, drop_at bs rest n e i))

-- ---- what a reader asks: with no refusal it answers a known value and rest

abbrev pub Asks : {A : Type 0} → List Question → A → Bytes → Answer A → Type 0
Asks qs x r (Ok p) = FirstNo qs None × (p.0 ≡ x) × (p.1 ≡ r)
Asks qs x r (Err q) = FirstNo qs (Some q)

pub no_more : (qs rs : List Question) (q : ℕ) → FirstNo qs (Some q) → FirstNo (qs ++ rs) (Some q)
no_more [] rs q f = absurd f
no_more (x ∷ qs) rs q (inl h) = inl h
no_more (x ∷ qs) rs q (inr h) = inr (h.0, no_more qs rs q h.1)

pub all_then : (qs rs : List Question) (o : Option ℕ) → FirstNo qs None → FirstNo rs o → FirstNo (qs ++ rs) o
all_then [] rs o f g = g
all_then (x ∷ qs) rs None f g = (f.0, all_then qs rs None f.1 g)
all_then (x ∷ qs) rs (Some q) f g = inr (f.0, all_then qs rs (Some q) f.1 g)

pub asks_next : {A B : Type 0} (qs rs : List Question) (x : A) (y : B) (r r' : Bytes) (a : Answer A) (k : A → Bytes → Answer B) →
    Asks qs x r a → Asks rs y r' (k x r) → Asks (qs ++ rs) y r' (next a k)
asks_next {B = B} qs rs x y r r' (Err q) k s then = no_more qs rs q s
asks_next {B = B} qs rs x y r r' (Ok p) k s then =
    at (k p.0 p.1) (subst (Asks rs y r') (λ i. k (sym s.1 i) (sym s.2 i)) then)
  where
    at : (a : Answer B) → Asks rs y r' a → Asks (qs ++ rs) y r' a
    at (Ok p) g = (all_then qs rs None s.0 g.0, g.1, g.2)
    at (Err q) g = all_then qs rs (Some q) s.0 g

pub asks_asked : {A : Type 0} (P : Type 0) (t : Bool) (q : ℕ) (x : A) (r : Bytes) → (t ≡ true → P) → (P → t ≡ true) →
    Asks ((q, P) ∷ []) x r (asked t q (x, r))
asks_asked P true q x r to from = ((to refl, tt), refl, refl)
asks_asked P false q x r to from = inl ((λ p. both_ways false refl (from p)), refl)

pub part_asks : (n : ℕ) (xs : Bytes) → Asks ((6, n ≤ length xs) ∷ []) (take n xs) (drop n xs) (part n xs)
part_asks n xs = asks_asked (n ≤ length xs) (leb n (length xs)) 6 (take n xs) (drop n xs) (leb-true n (length xs)) (le-leb n (length xs))
