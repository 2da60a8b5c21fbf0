-- What a test on two values says of their numbers, where they are compared as their numbers.
use Rattle.std.proofs.Common.{◌≡◌, ℤ, Some, Option, Ordering, Less, Equal, Greater, int_lt, int_le, ◌<ℤ◌, ap, ◌∙◌, arith}
use Rattle.std.specs.Ordering.{MatchOrdering, int_cmp, is_lt, is_le, is_some_and, partial_lt, partial_le}
use Rattle.std.proofs.lemmas.Cmp.{int_ranked}
use Rattle.std.proofs.lemmas.Int.{ints}

lt_by : (a b : ℤ) (o : Ordering) → MatchOrdering o (a <ℤ b) (a ≡ b) (b <ℤ a) → is_lt o ≡ int_lt a b
lt_by a b Less h = grind (arith, ints)
lt_by a b Equal h = grind (arith, ints)
lt_by a b Greater h = grind (arith, ints)

le_by : (a b : ℤ) (o : Ordering) → MatchOrdering o (a <ℤ b) (a ≡ b) (b <ℤ a) → is_le o ≡ int_le a b
le_by a b Less h = grind (arith, ints)
le_by a b Equal h = grind (arith, ints)
le_by a b Greater h = grind (arith, ints)

module _ {X : Type 0} {C : X → X → Option Ordering} {R : X → X → Ordering} (value : X → ℤ) (same : (x y : X) → C x y ≡ Some (R x y)) (order : (x y : X) → R x y ≡ int_cmp (value x) (value y)) where
  pub lt_numbers : (x y : X) → partial_lt C x y ≡ int_lt (value x) (value y)
  lt_numbers x y = ap (is_some_and is_lt) (same x y) ∙ lt_by (value x) (value y) (R x y) (int_ranked (value x) (value y) (R x y) (order x y))

  pub le_numbers : (x y : X) → partial_le C x y ≡ int_le (value x) (value y)
  le_numbers x y = ap (is_some_and is_le) (same x y) ∙ le_by (value x) (value y) (R x y) (int_ranked (value x) (value y) (R x y) (order x y))
