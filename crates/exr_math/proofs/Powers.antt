-- Powers of two.
use Rattle.std.proofs.Common.{◌≡◌, ℕ, ◌+◌, ◌-◌, ◌*◌, ◌^◌, ◌<◌, ◌≤◌, inl, inr, arith, pow-add}
use lib.Count.{count_leading_zeros}
use lib.Pow.{pow-lt}
use Rattle.std.proofs.lemmas.Nat.{leading_length}
use Rattle.std.proofs.lemmas.Bool.{cases_lt}
use Rattle.exr_math.specs.Logarithms.{Bits}

-- no smaller power of two than 2 ^ m is above n, where half of 2 ^ m is not
least_exponent : (n m k : ℕ) → 2 ^ m ≤ 2 * n + 1 → n < 2 ^ k → m ≤ k
least_exponent n m k top above =
    elim (cases_lt k m) [ inl h ↦ elim (cases_lt (k + 1) m) [ inl g ↦ omega (arith, pow-add 2 k 1, pow-lt g) | inr g ↦ let e : m ≡ k + 1 = omega arith in let t : 2 ^ (k + 1) ≤ 2 * n + 1 = rw e at top in omega (arith, pow-add 2 k 1) ] | inr h ↦ h ]

-- a number has the bits that are left without the zeros in front
pub bit_length : (n : ℕ) → n < 2 ^ 32 → Bits n (32 - count_leading_zeros 32 n)
bit_length n h =
    let b = leading_length 32 n h in
    let m : ℕ = b.0 in
    let e : 32 - count_leading_zeros 32 n ≡ m = omega (arith, b.1) in
    rw e (b.2, (λ k above. least_exponent n m k b.3 above))
