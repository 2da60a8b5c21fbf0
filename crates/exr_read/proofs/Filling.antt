-- A buffer that is filled from its start in several requests.
use Rattle.std.proofs.Common.{◌≡◌, ℕ, ◌+◌, ◌-◌, ◌<◌, ◌≤◌, Bool, true, leb, List, [], ◌++◌, length, take, drop, Ok, Err, Option, Result, sym, ap, subst, ◌∙◌, arith, leb-false, leb-true}
use borrow.Rule.Slice.PartMut.{put_mid}
use Rattle.std.proofs.lemmas.List.{append-nil, append_assoc, length-take-le, length-drop, take-append-drop, drop-drop, drop_all, take_at, drop_at, take_rest}
use Rattle.exr_error.specs.declared.stop.Stop.{Stop}
use Rattle.layout.specs.Numbers.{Bytes}
use Rattle.layout.proofs.Parts.{take_add, lent}
use Rattle.layout.specs.Streams.{SourceMeaning, source_of, after}
use Rattle.exr_read.specs.declared.read.Short.{Short}
use Rattle.exr_source.specs.Requests.{laid, Given, Requested}
use Rattle.std.specs.Result.{MatchResult, IsErrAnd}
use Rattle.exr_source.specs.Whole.{all_or}
use Rattle.exr_source.proofs.Whole.{ok_whole, err_whole}
use Rattle.exr_read.specs.Fills.{short, come, Filled}

-- what is lent from f on ends where the buffer ends
put_rest : {X : Type 0} (f : ℕ) (buffer part : List X) → put_mid f (length buffer - f) buffer part ≡ take f buffer ++ part
put_rest f buffer part =
    let e : length (drop f buffer) ≤ length buffer - f = simp length-drop (omega arith) in
    rw (drop_all (length buffer - f) (drop f buffer) e, append-nil)

front_laid : (f : ℕ) (bs buffer : Bytes) → f ≤ length bs → take f (laid f bs buffer) ≡ take f bs
front_laid f bs buffer h = take_at (take f bs) (drop f buffer) f (length-take-le f bs h)

rest_laid : (f : ℕ) (bs buffer : Bytes) → f ≤ length bs → drop f (laid f bs buffer) ≡ drop f buffer
rest_laid f bs buffer h = drop_at (take f bs) (drop f buffer) f (length-take-le f bs h)

-- k bytes more
laid_more : (f k : ℕ) (bs buffer : Bytes) → take f bs ++ laid k (drop f bs) (drop f buffer) ≡ laid (f + k) bs buffer
laid_more f k bs buffer = rw (take_add f k bs, append_assoc, drop-drop)

-- where a loop that fills the buffer has come to
pub record Filling (m : SourceMeaning) (buffer : Bytes) (f : ℕ) (m' : SourceMeaning) (buffer' : Bytes) : Type 0 where
  pub asked : f ≤ length buffer
  pub there : f ≤ length m.bytes
  pub laid_in : buffer' ≡ laid f m.bytes buffer
  pub left : m' ≡ after f m

module _ (m : SourceMeaning) (buffer : Bytes) (f : ℕ) (m' : SourceMeaning) (buffer' : Bytes) (i : Filling m buffer f m' buffer') where
  lent_is : lent f buffer' ≡ drop f buffer
  lent_is = take_rest buffer' f ∙ ap (drop f) i.laid_in ∙ rest_laid f m.bytes buffer i.there

  lent_length : length (lent f buffer') ≡ length buffer - f
  lent_length = ap length lent_is ∙ length-drop f buffer

  left_is : m'.bytes ≡ drop f m.bytes
  left_is = ap (λ x. x.bytes) i.left

  left_length : length m'.bytes ≡ length m.bytes - f
  left_length = ap length left_is ∙ length-drop f m.bytes

  front_is : take f buffer' ≡ take f m.bytes
  front_is = ap (take f) i.laid_in ∙ front_laid f m.bytes buffer i.there

  pub filling_more : (k : ℕ) (m'' : SourceMeaning) (part : Bytes) → Given m' (lent f buffer') k m'' part → Filling m buffer (f + k) m'' (put_mid f (length buffer' - f) buffer' part)
  filling_more k m'' part g =
      let part_is : part ≡ laid k (drop f m.bytes) (drop f buffer) = g.laid_in ∙ ap (λ x. laid k x (lent f buffer')) left_is ∙ ap (laid k (drop f m.bytes)) lent_is in
      record {
        asked = omega (arith, i.asked, g.asked, lent_length);
        there = omega (arith, i.there, g.there, left_length);
        laid_in = put_rest f buffer' part ∙ ap (λ x. x ++ part) front_is ∙ ap (λ x. take f m.bytes ++ x) part_is ∙ laid_more f k m.bytes buffer;
        left = g.left ∙ ap (after k) i.left ∙ ap (λ x. source_of x m.stop) (drop-drop k f m.bytes);
      }

-- ---- what a filled buffer tells

pub ok_all : (b : Bool) (x : Unit {0}) (s : Option ℕ) (n : ℕ) → Ok x ≡ all_or b (short s n) → b ≡ true
ok_all b x s n e = ok_whole b x (short s n) e

-- it was filled: it holds the first bytes that were to come, and the others still are
pub record Whole (m : SourceMeaning) (buffer : Bytes) (m' : SourceMeaning) (buffer' : Bytes) : Type 0 where
  pub enough : length buffer ≤ length m.bytes
  pub front : buffer' ≡ take (length buffer) m.bytes
  pub split : m.bytes ≡ buffer' ++ m'.bytes
  pub stop : m'.stop ≡ m.stop

pub filled_whole : (m : SourceMeaning) (buffer : Bytes) (x : Unit {0}) (m' : SourceMeaning) (buffer' : Bytes) → Filled m buffer (Ok x) m' buffer' → Whole m buffer m' buffer'
filled_whole m buffer x m' buffer' f =
    let n = length buffer in
    let enough : n ≤ length m.bytes = leb-true n (length m.bytes) (ok_all (leb n (length m.bytes)) x m.stop (length m.bytes) f.answer) in
    let all : come n m ≡ n = omega (arith, enough) in
    let front : buffer' ≡ take n m.bytes =
    f.laid_in ∙ ap (λ k. laid k m.bytes buffer) all ∙ ap (λ t. take n m.bytes ++ t) (drop_all n buffer (omega arith)) ∙ append-nil (take n m.bytes) in
    let left : m' ≡ after n m = f.left ∙ ap (λ k. after k m) all in
    record {
      enough = enough;
      front = front;
      split = sym (take-append-drop n m.bytes) ∙ (λ i. sym front i ++ (sym left i).bytes);
      stop = ap (λ x. x.stop) left;
    }

-- it was not: all bytes to come have been given
pub record Cut (m : SourceMeaning) (buffer : Bytes) (s : Short) (m' : SourceMeaning) : Type 0 where
  pub less : length m.bytes < length buffer
  pub why : s ≡ short m.stop (length m.bytes)
  pub left : m' ≡ source_of [] m.stop

pub filled_cut : (m : SourceMeaning) (buffer : Bytes) (s : Short) (m' : SourceMeaning) (buffer' : Bytes) → Filled m buffer (Err s) m' buffer' → Cut m buffer s m'
filled_cut m buffer s m' buffer' f =
    let n = length buffer in
    let p = err_whole (leb n (length m.bytes)) s (short m.stop (length m.bytes)) f.answer in
    let less : length m.bytes < n = leb-false n (length m.bytes) p.0 in
    let all : come n m ≡ length m.bytes = omega (arith, less) in
    record {
      less = less;
      why = p.1;
      left = f.left ∙ ap (λ k. after k m) all ∙ ap (λ bs. source_of bs m.stop) (drop_all (length m.bytes) m.bytes (omega arith));
    }

-- what was asked for is as it was answered, also where a stop is mapped
pub given_mapped : {m : SourceMeaning} {buffer : Bytes} {m' : SourceMeaning} {buffer' : Bytes} {E : Type 0} {s : Result ℕ E} (Q : Stop → E → Type 0) (r : Result ℕ Stop) (k : ℕ) → Requested m buffer r m' buffer' → MatchResult r (λ x. s ≡ Ok x) (λ d. IsErrAnd s (Q d)) → s ≡ Ok k → Given m buffer k m' buffer'
given_mapped {m} {buffer} {m'} {buffer'} Q (Ok j) k a h q = let same : j ≡ k = cc in subst (λ (n : ℕ). Given m buffer n m' buffer') same a
given_mapped Q (Err d) k a h q = absurd (let z : IsErrAnd (Ok k) (Q d) = rw q at h in z)
