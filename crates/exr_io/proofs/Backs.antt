-- The bytes of numbers read back as these numbers.
use Rattle.std.proofs.Common.{◌≡◌, ℕ, ◌<◌, ◌≤◌, [], ◌∷◌, ◌++◌, length, refl, ap, arith, le-leb}
use Rattle.std.specs.List.{flat_map}
use Rattle.std.proofs.lemmas.List.{length-append, take_at, drop_at}
use Rattle.std.proofs.lemmas.List.Elements.{All-head, All-tail}
use Rattle.layout.specs.Numbers.{Bytes, range, low_first}
use Rattle.layout.proofs.Numbered.{length-low_first, whole-low_first}
use Rattle.exr_io.specs.Runs.{RunsReadBack}

module _ {X : Type 0} (w : ℕ) (fits : X → Type 0) (bits : X → ℕ) (value : ℕ → X) (below : (x : X) → fits x → bits x < range w) (back : (x : X) → fits x → value (bits x) ≡ x) where
  abbrev spelled : X → Bytes
  spelled x = low_first w (bits x)

  pub reads_back : RunsReadBack w fits bits value
  reads_back [] [] f n = refl
  reads_back [] (y ∷ slice) f n = absurd (omega (arith, n))
  reads_back (x ∷ xs) [] f n = absurd (omega (arith, n))
  reads_back (x ∷ xs) (y ∷ slice) f n =
      let h = All-head fits x xs f in
      let rest = flat_map spelled xs in
      let long : length (spelled x) ≡ w = length-low_first w (bits x) in
      let enough : w ≤ length (spelled x ++ rest) = omega (arith, long, length-append (spelled x) rest) in
      let m : length slice ≡ length xs = omega (arith, n) in
      rw (le-leb w (length (spelled x ++ rest)) enough, take_at (spelled x) rest w long, drop_at (spelled x) rest w long, whole-low_first w (bits x) (below x h), back x h) (ap (λ t. x ∷ t) (reads_back xs slice (All-tail fits x xs f) m))
