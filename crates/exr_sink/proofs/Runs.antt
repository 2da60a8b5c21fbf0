-- One run of bytes given after another.
use Rattle.std.proofs.Common.{◌≡◌, ◌+◌, ◌-◌, ◌<◌, ◌≤◌, min, leb, [], ◌++◌, length, take, Ok, Err, Result, sym, refl, ap, ◌∙◌, subst, append_assoc, arith, le-leb, leb-false, leb-true}
use borrow.Author.Tests.{lt-leb}
use Rattle.std.proofs.lemmas.Bool.Decides.{nat_tests}
use Rattle.std.proofs.lemmas.List.{length-append, take_all, take_at, drop_at, take-append-le, append-nil}
use Rattle.exr_error.specs.declared.stop.Full.{Full}
use Rattle.layout.specs.Numbers.{Bytes}
use Rattle.layout.specs.Streams.{SinkMeaning, sink_of, with}
use Rattle.exr_source.specs.Whole.{all_or}
use Rattle.exr_source.proofs.Whole.{ok_whole, err_whole}
use Rattle.exr_sink.specs.Gifts.{full, GaveAll}
use Rattle.layout.proofs.Parts.{take_add}

-- the same bytes
pub gave_same : (m : SinkMeaning) (bs cs : Bytes) (r : Result (Unit {0}) Full) (m' : SinkMeaning) → bs ≡ cs → GaveAll m bs r m' → GaveAll m cs r m'
gave_same m bs cs r m' e g = subst (λ (x : Bytes). GaveAll m x r m') e g

-- the first none of some bytes
pub with_none : (m : SinkMeaning) (bs : Bytes) → m ≡ with 0 bs m
with_none m bs =
    let n : m.room ≡ m.room - 0 = omega arith in
    ap (λ x. sink_of x m.room m.stop) (sym (append-nil m.taken)) ∙ ap (λ x. sink_of (m.taken ++ []) x m.stop) n

-- nothing given is taken whole
pub gave_none : (m : SinkMeaning) → GaveAll m [] (Ok tt) m
gave_none m =
    let z : 0 ≡ min 0 m.room = omega arith in
    record {
      answer = sym (ap (λ b. all_or b (full m.stop)) (le-leb 0 m.room (omega arith)));
      after = with_none m [] ∙ ap (λ k. with k [] m) z;
    }

all_fit : (m : SinkMeaning) (xs : Bytes) (m' : SinkMeaning) → GaveAll m xs (Ok tt) m' → length xs ≤ m.room
all_fit m xs m' g = leb-true (length xs) m.room (ok_whole (leb (length xs) m.room) tt (full m.stop) g.answer)

all_taken : (m : SinkMeaning) (xs : Bytes) (m' : SinkMeaning) → GaveAll m xs (Ok tt) m' → m' ≡ sink_of (m.taken ++ xs) (m.room - length xs) m.stop
all_taken m xs m' g =
    let h : length xs ≤ m.room = all_fit m xs m' g in
    let n : min (length xs) m.room ≡ length xs = omega arith in
    let t : take (length xs) xs ≡ xs = take_all (length xs) xs (omega arith) in
    g.after ∙ ap (λ k. with k xs m) n ∙ ap (λ x. sink_of (m.taken ++ x) (m.room - length xs) m.stop) t

-- what comes after bytes that were all taken
pub gave_on : (m : SinkMeaning) (xs bs : Bytes) (r : Result (Unit {0}) Full) (m' m'' : SinkMeaning) → GaveAll m xs (Ok tt) m' → GaveAll m' bs r m'' → GaveAll m (xs ++ bs) r m''
gave_on m xs bs r m' m'' g h =
    let l = length-append xs bs in
    let fit = all_fit m xs m' g in
    let k = min (length bs) (m.room - length xs) in
    let e = all_taken m xs m' g in
    let b : leb (length bs) (m.room - length xs) ≡ leb (length (xs ++ bs)) m.room = grind (arith, nat_tests) in
    let n : length xs + k ≡ min (length (xs ++ bs)) m.room = omega arith in
    let t : xs ++ take k bs ≡ take (length xs + k) (xs ++ bs) = sym (take_add (length xs) k (xs ++ bs) ∙ rw (take_at xs bs (length xs) refl, drop_at xs bs (length xs) refl)) in
    let left : m.room - length xs - k ≡ m.room - (length xs + k) = omega arith in
    record {
      answer = h.answer ∙ ap (λ x. all_or (leb (length bs) x.room) (full x.stop)) e ∙ ap (λ x. all_or x (full m.stop)) b;
      after =
          h.after
          ∙ ap (λ x. with (min (length bs) x.room) bs x) e
          ∙ ap (λ x. sink_of x (m.room - length xs - k) m.stop) (append_assoc m.taken xs (take k bs) ∙ ap (λ x. m.taken ++ x) t)
          ∙ ap (λ x. sink_of (m.taken ++ take (length xs + k) (xs ++ bs)) x m.stop) left
          ∙ ap (λ x. with x (xs ++ bs) m) n;
    }

-- what comes after bytes that were not all taken is not given
pub gave_short : (m : SinkMeaning) (xs bs : Bytes) (e : Full) (m' : SinkMeaning) → GaveAll m xs (Err e) m' → GaveAll m (xs ++ bs) (Err e) m'
gave_short m xs bs e m' g =
    let l = length-append xs bs in
    let s : m.room < length xs = leb-false (length xs) m.room (err_whole (leb (length xs) m.room) e (full m.stop) g.answer).0 in
    let b : leb (length (xs ++ bs)) m.room ≡ leb (length xs) m.room = lt-leb _ _ (omega arith) ∙ sym (lt-leb _ _ s) in
    let n : min (length xs) m.room ≡ m.room = omega arith in
    let k : min (length (xs ++ bs)) m.room ≡ m.room = omega arith in
    let t : take m.room (xs ++ bs) ≡ take m.room xs = take-append-le m.room xs bs (omega arith) in
    record {
      answer = g.answer ∙ ap (λ x. all_or x (full m.stop)) (sym b);
      after = g.after ∙ ap (λ x. with x xs m) n ∙ ap (λ x. sink_of (m.taken ++ x) (m.room - m.room) m.stop) (sym t) ∙ ap (λ x. with x (xs ++ bs) m) (sym k);
    }
