-- The order of names is total: laws of `cmp`.
use Rattle.std.proofs.Common.{◌≡◌, ℕ, ◌<◌, ◌⊎◌, [], ◌∷◌, ◌++◌, sym, refl, ap, ◌∙◌, subst, ap₂, inl, inr, arith}
use Prim.Native.Nat.{compare, Ordering}
use Rattle.layout.specs.Numbers.{Bytes}
use Rattle.layout.specs.Names.{and_then, flip, cmp, Precedes, by_byte, by_extension, NamesOrdered}

lt_of : (a b : ℕ) → compare a b ≡ Ordering.lt → a < b
lt_of a b e = grind arith

of_lt : (a b : ℕ) → a < b → compare a b ≡ Ordering.lt
of_lt a b e = grind arith

eq_of : (a b : ℕ) → compare a b ≡ Ordering.eq → a ≡ b
eq_of a b e = grind arith

refl_of : (a : ℕ) → compare a a ≡ Ordering.eq
refl_of a = grind arith

flip_of : (a b : ℕ) → compare b a ≡ flip (compare a b)
flip_of a b = grind arith

flip_then : (o p : Ordering) → flip (and_then o p) ≡ and_then (flip o) (flip p)
flip_then Ordering.lt p = refl
flip_then Ordering.eq p = refl
flip_then Ordering.gt p = refl

pub cmp_refl : (n : Bytes) → cmp n n ≡ Ordering.eq
unfolding cmp
cmp_refl [] = refl
cmp_refl (b ∷ bs) = rw (refl_of b) (cmp_refl bs)

pub cmp_flip : (n m : Bytes) → cmp m n ≡ flip (cmp n m)
unfolding cmp
cmp_flip [] [] = refl
cmp_flip [] (b ∷ bs) = refl
cmp_flip (a ∷ xs) [] = refl
cmp_flip (a ∷ xs) (b ∷ bs) = let h = cmp_flip xs bs in rw (flip_of a b, h) (sym (flip_then (compare a b) (cmp xs bs)))

then_eq : (o p : Ordering) → and_then o p ≡ Ordering.eq → (o ≡ Ordering.eq) × (p ≡ Ordering.eq)
then_eq Ordering.lt p e = (e, cc)
then_eq Ordering.eq p e = (refl, e)
then_eq Ordering.gt p e = (e, cc)

then_lt : (o p : Ordering) → and_then o p ≡ Ordering.lt → (o ≡ Ordering.lt) ⊎ ((o ≡ Ordering.eq) × (p ≡ Ordering.lt))
then_lt Ordering.lt p e = inl refl
then_lt Ordering.eq p e = inr (refl, e)
then_lt Ordering.gt p e = inl e

pub cmp_same : (n m : Bytes) → cmp n m ≡ Ordering.eq → n ≡ m
unfolding cmp
cmp_same [] [] e = refl
cmp_same [] (b ∷ bs) e = cc
cmp_same (a ∷ xs) [] e = cc
cmp_same (a ∷ xs) (b ∷ bs) e =
    let h = then_eq (compare a b) (cmp xs bs) e in
    ap₂ ◌∷◌ (eq_of a b h.0) (cmp_same xs bs h.1)

pub cmp_trans : (x y z : Bytes) → cmp x y ≡ Ordering.lt → cmp y z ≡ Ordering.lt → cmp x z ≡ Ordering.lt
unfolding cmp
cmp_trans [] [] z p q = cc
cmp_trans [] (b ∷ y) [] p q = cc
cmp_trans [] (b ∷ y) (c ∷ z) p q = refl
cmp_trans (a ∷ x) [] z p q = cc
cmp_trans (a ∷ x) (b ∷ y) [] p q = cc
cmp_trans (a ∷ x) (b ∷ y) (c ∷ z) p q = go (λ h k. cmp_trans x y z h k) (then_lt (compare a b) (cmp x y) p) (then_lt (compare b c) (cmp y z) q)
  where
    go : (cmp x y ≡ Ordering.lt → cmp y z ≡ Ordering.lt → cmp x z ≡ Ordering.lt)
        → (compare a b ≡ Ordering.lt) ⊎ ((compare a b ≡ Ordering.eq) × (cmp x y ≡ Ordering.lt))
        → (compare b c ≡ Ordering.lt) ⊎ ((compare b c ≡ Ordering.eq) × (cmp y z ≡ Ordering.lt))
        → and_then (compare a c) (cmp x z) ≡ Ordering.lt
    go ih (inl h) (inl k) = let l : compare a c ≡ Ordering.lt = grind arith in rw l
    go ih (inl h) (inr k) = let l : compare a c ≡ Ordering.lt = grind arith in rw l
    go ih (inr h) (inl k) = let l : compare a c ≡ Ordering.lt = grind arith in rw l
    go ih (inr h) (inr k) = let l : compare a c ≡ Ordering.eq = grind arith in rw l (ih h.1 k.1)

pub lt_gt : (n m : Bytes) → cmp n m ≡ Ordering.lt → cmp m n ≡ Ordering.gt
lt_gt n m e = cmp_flip n m ∙ ap flip e

pub gt_lt : (n m : Bytes) → cmp n m ≡ Ordering.gt → cmp m n ≡ Ordering.lt
gt_lt n m e = cmp_flip n m ∙ ap flip e

-- the order in words
behind : (a : ℕ) (n m : Bytes) → Precedes n m → Precedes (a ∷ n) (a ∷ m)
behind a n m (by_byte front xs ys b c p q l) = by_byte (a ∷ front) xs ys b c (ap (λ (x : Bytes). a ∷ x) p) (ap (λ (x : Bytes). a ∷ x) q) l
behind a n m (by_extension b ys p) = by_extension b ys (ap (λ (x : Bytes). a ∷ x) p)

pub before : (n m : Bytes) → cmp n m ≡ Ordering.lt → Precedes n m
unfolding cmp
before [] [] e = let z : ◌≡◌ {A = ℕ} 0 1 = cc in absurd (omega arith)
before [] (b ∷ m) e = by_extension b m refl
before (a ∷ n) [] e = let z : ◌≡◌ {A = ℕ} 0 1 = cc in absurd (omega arith)
before (a ∷ n) (b ∷ m) e = go (λ h. before n m h) (then_lt (compare a b) (cmp n m) e)
  where
    go : (cmp n m ≡ Ordering.lt → Precedes n m) → (compare a b ≡ Ordering.lt) ⊎ ((compare a b ≡ Ordering.eq) × (cmp n m ≡ Ordering.lt)) → Precedes (a ∷ n) (b ∷ m)
    go ih (inl h) = by_byte [] n m a b refl refl (lt_of a b h)
    go ih (inr h) = subst (λ (x : ℕ). Precedes (a ∷ n) (x ∷ m)) (eq_of a b h.0) (behind a n m (ih h.1))

byte_first : (front xs ys : Bytes) (a b : ℕ) → a < b → cmp (front ++ a ∷ xs) (front ++ b ∷ ys) ≡ Ordering.lt
unfolding cmp
byte_first [] xs ys a b l = rw (of_lt a b l)
byte_first (c ∷ front) xs ys a b l = rw (refl_of c) (byte_first front xs ys a b l)

extension_first : (n ys : Bytes) (b : ℕ) → cmp n (n ++ b ∷ ys) ≡ Ordering.lt
unfolding cmp
extension_first [] ys b = refl
extension_first (a ∷ n) ys b = rw (refl_of a) (extension_first n ys b)

pub first : (n m : Bytes) → Precedes n m → cmp n m ≡ Ordering.lt
first n m (by_byte front xs ys a b p q l) = ap₂ cmp p q ∙ byte_first front xs ys a b l
first n m (by_extension b ys p) = ap (cmp n) p ∙ extension_first n ys b

three : (n m : Bytes) → (n ≡ m) ⊎ (Precedes n m ⊎ Precedes m n)
three n m = go (cmp n m) refl
  where
    go : (o : Ordering) → cmp n m ≡ o → (n ≡ m) ⊎ (Precedes n m ⊎ Precedes m n)
    go Ordering.eq e = inl (cmp_same n m e)
    go Ordering.lt e = inr (inl (before n m e))
    go Ordering.gt e = inr (inr (before m n (gt_lt n m e)))

apart : (n m : Bytes) → Precedes n m → Precedes m n → ⊥
apart n m p q =
    let a : cmp n m ≡ Ordering.lt = first n m p in
    let b : cmp n m ≡ Ordering.gt = lt_gt m n (first m n q) in
    let z : ◌≡◌ {A = ℕ} 0 1 = cc in
    omega arith

pub names_ordered : NamesOrdered
names_ordered = record {
  same = λ n m. (cmp_same n m, λ e. subst (λ (x : Bytes). cmp n x ≡ Ordering.eq) e (cmp_refl n));
  turned = cmp_flip;
  through = cmp_trans;
  in_words = λ n m. (before n m, first n m);
  three = three;
  apart = apart;
}
