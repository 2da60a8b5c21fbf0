-- Quotients of whole numbers, the first not below 0 and the second not below 1.
use Rattle.std.proofs.Common.{◌<◌, ℤ, pos, negsuc, nat_abs, ◌≤ℤ◌, Some, None, Option, div-le_self, arith}
use lib.Signed.{quot_z}
use Rattle.std.proofs.Math.Nat.{div-mul-le_self, lt-mul-div-succ}
use Rattle.std.proofs.lemmas.Int.{ints}
use Rattle.exr_number.specs.Numbers.{Range, Within, Answers, QuotientFits}
use Rattle.exr_math.specs.Rounding.{RoundedDown, CanDivide, Floor}

above_zero : (d : ℤ) → pos 1 ≤ℤ d → 0 < nat_abs d
above_zero (pos d) k = omega (arith, ints)
above_zero (negsuc d) k = absurd k.le

-- the quotient toward zero is the quotient rounded down
floor_quotient : (n d : ℤ) → pos 0 ≤ℤ n → pos 1 ≤ℤ d → RoundedDown n d (quot_z n d) × (pos 0 ≤ℤ quot_z n d) × (quot_z n d ≤ℤ n)
floor_quotient (pos n) (pos d) h k =
    let positive : 0 < d = omega (arith, ints) in
    ((omega (arith, ints, div-mul-le_self n d), omega (arith, ints, lt-mul-div-succ n positive)), omega (arith, ints), omega (arith, ints, div-le_self n d))
floor_quotient (pos n) (negsuc d) h k = absurd k.le
floor_quotient (negsuc n) d h k = absurd h.le

-- so the quotient is there, and is rounded down
pub floor_answer : {X : Type 0} (value : X → ℤ) (s : Range) (n d : ℤ) (r : Option X) → Within s (pos 0) → Within s n → CanDivide n d → Answers value (QuotientFits s d) (quot_z n d) r → Floor value n d r
floor_answer value s n d None z w (h, k) a =
    let f = floor_quotient n d h k in
    a (above_zero d k, (omega (arith, ints), omega (arith, ints)))
floor_answer value s n d (Some q) z w (h, k) a = rw a.1 (floor_quotient n d h k)
