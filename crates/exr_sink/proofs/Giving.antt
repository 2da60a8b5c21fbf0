-- Bytes that a sink takes in several gifts.
use Rattle.std.proofs.Common.{◌≡◌, ℕ, ◌-◌, min, ◌++◌, length, take, drop, Ok, Result, sym, ap, ◌∙◌, arith, le-leb}
use Rattle.std.proofs.lemmas.List.{length-take-le, take_all, take_rest, take-append-drop}
use Rattle.exr_error.specs.declared.stop.Full.{Full}
use Rattle.layout.specs.Numbers.{Bytes}
use Rattle.layout.specs.Streams.{SinkMeaning, sink_of, with}
use Rattle.layout.proofs.Parts.{lent}
use Rattle.exr_source.specs.Whole.{all_or}
use Rattle.exr_sink.specs.Gifts.{full, Took, GaveAll}
use Rattle.exr_sink.proofs.Runs.{gave_on, gave_same}

-- the bytes of one gift that were taken were all taken
took_all : (m : SinkMeaning) (bs : Bytes) (k : ℕ) (m' : SinkMeaning) → Took m bs k m' → GaveAll m (take k bs) (Ok tt) m'
took_all m bs k m' t =
    let l : length (take k bs) ≡ k = length-take-le k bs t.given in
    let n : min (length (take k bs)) m.room ≡ k = omega (arith, l, t.room) in
    record {
      answer = sym (ap (λ b. all_or b (full m.stop)) (le-leb (length (take k bs)) m.room (omega (arith, l, t.room))));
      after = t.after ∙ ap (λ x. sink_of (m.taken ++ x) (m.room - k) m.stop) (sym (take_all k (take k bs) (omega (arith, l)))) ∙ ap (λ j. with j (take k bs) m) (sym n);
    }

-- what comes of the rest comes of all
pub took_on : (m : SinkMeaning) (bs : Bytes) (k : ℕ) (m' : SinkMeaning) (r : Result (Unit {0}) Full) (m'' : SinkMeaning) → Took m bs k m' → GaveAll m' (lent k bs) r m'' → GaveAll m bs r m''
took_on m bs k m' r m'' t g =
    let h : GaveAll m' (drop k bs) r m'' = gave_same m' (lent k bs) (drop k bs) r m'' (take_rest bs k) g in
    gave_same m (take k bs ++ drop k bs) bs r m'' (take-append-drop k bs) (gave_on m (take k bs) (drop k bs) r m' m'' (took_all m bs k m' t) h)
