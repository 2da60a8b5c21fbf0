use Rattle.std.proofs.Common.{◌≡◌, ℕ, ◌+◌, ◌<◌, List, ◌∷◌, length, get_or, drop, sym, ap, ◌∙◌}
use Rattle.std.proofs.lemmas.Result.{err_from_is_err_and}
use Rattle.std.proofs.lemmas.List.{drop_more}
use Rattle.exr_sink.proofs.Runs.{gave_on, gave_short}
use Rattle.exr_io.proofs.runs.write_slice_le.Goals as goal

drop_at_item : {X : Type 0} (xs : List X) (i : ℕ) (x : X) → i < length xs → x ≡ get_or xs i x → drop i xs ≡ x ∷ drop (i + 1) xs
drop_at_item xs i x h e = drop_more xs i x h ∙ ap (λ x. x ∷ drop (i + 1) xs) (sym e)

pub returns-in_err-write_le-clause-takes : goal.returns-in_err-write_le-clause-takes
returns-in_err-write_le-clause-takes g c =
    let p = err_from_is_err_and c.from_residual.result c.from_residual.ensures.1 in
    let next = drop_at_item c.args.slice.now c.loop-x.x-index c.x-item.result c.loop-x-test.true c.x-item.is in
    rw (p.1, p.2) (c.loop-x.invariant.takes _ _ (rw next (gave_short _ _ _ _ _ c.in_err-write_le.ensures.takes)))

pub loop-x-preserved : goal.loop-x-preserved
loop-x-preserved g c =
    let next = drop_at_item c.args.slice.now c.loop-x.x-index c.x-item.result c.loop-x-test.true c.x-item.is in
    record {
      takes = λ r m h. c.loop-x.invariant.takes r m (rw next (gave_on _ _ _ _ _ _ c.in_ok-write_le.ensures.takes h));
      kept = g.met.W.Sink.steady.on _ _ _ c.loop-x.invariant.kept c.in_ok-write_le.ensures.kept;
    }
