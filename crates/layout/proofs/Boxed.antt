-- A box that is written is read back as it was.
use Rattle.std.proofs.Common.{◌≡◌, ℕ, ◌-◌, ◌<◌, true, ℤ, pos, negsuc, ◌+ℤ◌, ◌-ℤ◌, nat_abs, ◌≤ℤ◌, refl, ap, ◌∙◌, arith, w32, SFits, to_z, of_z}
use lib.Signed.{le_z}
use borrow.Author.Differences.{fits_in}
use Rattle.std.specs.Int.{int_min, int_max}
use Rattle.std.proofs.lemmas.Int.{ints, clamps, to_z-of_z}
use Rattle.std.proofs.lemmas.Bool.Decides.{nat_tests}
use Rattle.layout.specs.Numbers.{range}
use Rattle.layout.specs.Fields.{Held}
use Rattle.layout.specs.Boxes.{Box, last_of, axis_good, box_good, axis, corners, box_from, corner_numbers}

from_le_z : (a b : ℤ) → le_z a b ≡ true → a ≤ℤ b
from_le_z a b t = grind (arith, ints)

fit_low : (l : ℤ) (n : ℕ) → axis_good l n ≡ true → SFits w32 l
fit_low l n ok =
    let a : negsuc 1073741821 ≤ℤ l = from_le_z _ _ (grind (arith, nat_tests)) in
    let b : last_of l n ≤ℤ pos 1073741822 = from_le_z _ _ (grind (arith, nat_tests)) in
    fits_in w32 l (omega (arith, ints))

fit_high : (l : ℤ) (n : ℕ) → axis_good l n ≡ true → SFits w32 (last_of l n)
fit_high l n ok =
    let a : negsuc 1073741821 ≤ℤ l = from_le_z _ _ (grind (arith, nat_tests)) in
    let b : last_of l n ≤ℤ pos 1073741822 = from_le_z _ _ (grind (arith, nat_tests)) in
    fits_in w32 (last_of l n) (omega (arith, ints))

low : (l : ℤ) (k : ℕ) → int_min l (l +ℤ pos k) ≡ l
low l k = omega (arith, ints, clamps)

high : (l : ℤ) (k : ℕ) → int_max l (l +ℤ pos k) ≡ l +ℤ pos k
high l k = omega (arith, ints, clamps)

count : (l : ℤ) (n : ℕ) → 0 < n → nat_abs (last_of l n -ℤ l +ℤ pos 1) ≡ n
count l n h = let e : last_of l n -ℤ l +ℤ pos 1 ≡ pos n = omega (arith, ints) in ap nat_abs e

axis_back : (l : ℤ) (n : ℕ) → axis_good l n ≡ true → axis (to_z w32 (of_z w32 l)) (to_z w32 (of_z w32 (last_of l n))) ≡ (l, n)
axis_back l n ok =
    let some : 0 < n = grind (arith, nat_tests) in
    (λ i. axis (to_z-of_z w32 l (fit_low l n ok) i) (to_z-of_z w32 (last_of l n) (fit_high l n ok) i))
    ∙ (λ i. (low l (n - 1) i, nat_abs (high l (n - 1) i -ℤ low l (n - 1) i +ℤ pos 1)))
    ∙ (λ i. (l, count l n some i))

pub box_back : (b : Box) → box_good b ≡ true → box_from (corner_numbers b) ≡ b
box_back b ok =
    let ax = axis_back b.position.0 b.size.0 (grind (arith, nat_tests)) in
    let ay = axis_back b.position.1 b.size.1 (grind (arith, nat_tests)) in
    λ i. record { position = ((ax i).0, (ay i).0); size = ((ax i).1, (ay i).1) }

below : (z : ℤ) → SFits w32 z → of_z w32 z < range 4
below (pos n) f = omega (arith, f.sfits)
below (negsuc n) f = omega (arith, f.sfits)

pub box_held : (b : Box) → box_good b ≡ true → Held corners (corner_numbers b)
unfolding Held
box_held b ok =
    let okx : axis_good b.position.0 b.size.0 ≡ true = grind (arith, nat_tests) in
    let oky : axis_good b.position.1 b.size.1 ≡ true = grind (arith, nat_tests) in (
      below _ (fit_low b.position.0 b.size.0 okx),
      refl,
      refl,
      (
        below _ (fit_low b.position.1 b.size.1 oky),
        refl,
        refl,
        (
          below _ (fit_high b.position.0 b.size.0 okx),
          refl,
          refl,
          (below _ (fit_high b.position.1 b.size.1 oky), refl, refl, tt),
        ),
      ),
    )
