-- A slice of numbers that is read: its first place, and then the rest.
use Rattle.std.proofs.Common.{◌≡◌, ℕ, ◌+◌, ◌*◌, ◌<◌, ◌≤◌, min, Bool, true, false, cond, leb, List, [], ◌∷◌, ◌++◌, length, take, drop, set, Ok, Err, Option, Result, sym, refl, ap, ◌∙◌, subst, append_assoc, arith, le-leb, leb-false, leb-true}
use Rattle.std.proofs.Math.Nat.{suc-mul, zero-mul}
use Rattle.std.proofs.lemmas.Bool.{lt-leb}
use Rattle.std.proofs.lemmas.Bool.Decides.{nat_tests}
use Rattle.std.proofs.lemmas.List.{append-nil, length-drop, take-append-drop, take_all, drop_all, drop-drop, drop_more, take_more_set, drop-set-lt}
use Rattle.exr_error.specs.declared.stop.Stop.{Stop}
use Rattle.layout.specs.Numbers.{whole}
use Rattle.layout.specs.Streams.{SourceMeaning, source_of, after}
use Rattle.exr_source.specs.Requests.{stop_at}
use Rattle.exr_read.specs.Fills.{come}
use Rattle.exr_io.specs.Reads.{one_or, ReadLe}
use Rattle.exr_io.specs.Runs.{ReadRun, read_into}

module _ {X : Type 0} (w : ℕ) (value : ℕ → X) where
  came : (b : Bool) (v x : X) (s : Option ℕ) → Ok v ≡ one_or b x s → (b ≡ true) × (v ≡ x)
  came true v x s p = (refl, cc)
  came false v x s p = (cc, cc)

  failed : (b : Bool) (e : Stop) (x : X) (s : Option ℕ) → Err e ≡ one_or b x s → (b ≡ false) × (e ≡ stop_at s)
  failed true e x s p = (cc, cc)
  failed false e x s p = (refl, cc)

  module _ (m : SourceMeaning) (x : X) (xs : List X) where
    abbrev first : X
    first = value (whole (take w m.bytes))

    more : length (x ∷ xs) * w ≡ length xs * w + w
    more = suc-mul (length xs) w

    into : (b : Bool) → leb w (length m.bytes) ≡ b → read_into w value (x ∷ xs) m.bytes ≡ cond b (first ∷ read_into w value xs (drop w m.bytes)) (x ∷ xs)
    into b e = ap (λ b. cond b (first ∷ read_into w value xs (drop w m.bytes)) (x ∷ xs)) e

    -- a number comes for the first place
    run_on : (v : X) (m' : SourceMeaning) → ReadLe w value m (Ok v) m' → (r : Result (Unit {0}) Stop) (m'' : SourceMeaning) (ys : List X) → ReadRun w value m' xs r m'' ys → ReadRun w value m (x ∷ xs) r m'' (v ∷ ys)
    run_on v m' a r m'' ys k =
        let p = came (leb w (length m.bytes)) v first m.stop a.answer in
        let enough : w ≤ length m.bytes = leb-true _ _ p.0 in
        let all : come w m ≡ w = omega arith in
        let q = subst (λ s. ReadRun w value s xs r m'' ys) (a.left ∙ ap (λ n. after n m) all) k in
        let n = length xs * w in
        let long = length-drop w m.bytes in
        let test : leb n (length (drop w m.bytes)) ≡ leb (length (x ∷ xs) * w) (length m.bytes) = grind (arith, nat_tests, more, long, enough) in
        let sum : w + min n (length (drop w m.bytes)) ≡ come (length (x ∷ xs) * w) m = omega (arith, more, long, enough) in
        record {
          answer = q.answer ∙ ap (λ b. one_or b tt m.stop) test;
          laid_in = ap (λ t. v ∷ t) q.laid_in ∙ ap (λ u. u ∷ read_into w value xs (drop w m.bytes)) p.1 ∙ sym (into true p.0);
          left = q.left ∙ ap (λ b. source_of b m.stop) (drop-drop (min n (length (drop w m.bytes))) w m.bytes) ∙ ap (λ k. after k m) sum;
        }

    -- none does
    run_stopped : (e : Stop) (m' : SourceMeaning) → ReadLe w value m (Err e) m' → (r : Result (Unit {0}) Stop) → r ≡ Err e → ReadRun w value m (x ∷ xs) r m' (x ∷ xs)
    run_stopped e m' a r re =
        let p = failed (leb w (length m.bytes)) e first m.stop a.answer in
        let less : length m.bytes < w = leb-false _ _ p.0 in
        let short : length m.bytes < length (x ∷ xs) * w = omega (arith, more, less) in
        let all : come w m ≡ come (length (x ∷ xs) * w) m = omega arith in
        record {
          answer = re ∙ ap Err p.1 ∙ sym (ap (λ b. one_or b tt m.stop) (lt-leb _ _ short));
          laid_in = sym (into false p.0);
          left = a.left ∙ ap (λ n. after n m) all;
        }

  run_done : (m : SourceMeaning) → ReadRun w value m [] (Ok tt) m []
  run_done m =
      let none = zero-mul w in
      let all : 0 ≡ come (0 * w) m = omega (arith, none) in
      record {
        answer = sym (ap (λ b. one_or b tt m.stop) (le-leb (0 * w) (length m.bytes) (omega (arith, none))));
        laid_in = refl;
        left = ap (λ n. after n m) all;
      }

  -- what comes of the rest of a slice comes of all of it
  abbrev pub Rest : SourceMeaning → List X → ℕ → SourceMeaning → List X → Type 0
  Rest m₀ slice₀ i m slice = (r : Result (Unit {0}) Stop) (m' : SourceMeaning) (rest : List X) → ReadRun w value m (drop i slice) r m' rest → ReadRun w value m₀ slice₀ r m' (take i slice ++ rest)

  module _ (m₀ : SourceMeaning) (slice₀ : List X) (i : ℕ) (m : SourceMeaning) (slice : List X) (s : Rest m₀ slice₀ i m slice) where
    pub rest_on : i < length slice → (v : X) (m' : SourceMeaning) → ReadLe w value m (Ok v) m' → Rest m₀ slice₀ (i + 1) m' (set slice i v)
    rest_on h v m' a = λ r m'' rest k.
        let q : ReadRun w value m' (drop (i + 1) slice) r m'' rest = rw (drop-set-lt (i + 1) slice i v (omega arith)) at k in
        let run = s r m'' (v ∷ rest) (rw (drop_more slice i v h) (run_on m _ (drop (i + 1) slice) v m' a r m'' rest q)) in
        rw (take_more_set slice i v h, append_assoc) run

    pub rest_stopped : i < length slice → (d : X) (e : Stop) (m' : SourceMeaning) (r : Result (Unit {0}) Stop) → ReadLe w value m (Err e) m' → r ≡ Err e → ReadRun w value m₀ slice₀ r m' slice
    rest_stopped h d e m' r a re =
        let run = s r m' (drop i slice) (rw (drop_more slice i d h) (run_stopped m _ (drop (i + 1) slice) e m' a r re)) in
        rw (take-append-drop i slice) at run

    pub rest_done : length slice ≤ i → ReadRun w value m₀ slice₀ (Ok tt) m slice
    rest_done h = let run = s (Ok tt) m [] (rw (drop_all i slice h) (run_done m)) in rw (append-nil (take i slice), take_all i slice h) at run
