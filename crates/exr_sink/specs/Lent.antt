-- What stays of a lent buffer: it is the one that was lent, as long as it was, and as it was behind the bytes taken.
use Rattle.std.specs.Prelude.{◌≡◌, ℕ, ◌+◌, ◌-◌, ◌≤◌, List, length, drop, refl}
use Rattle.std.proofs.Common.{sym, ap, ◌∙◌, le_refl, le_trans, add-sub_of_le}
use Rattle.std.proofs.lemmas.List.{drop-drop}
use Rattle.exr_source.specs.Keeping.{Steady}
use Rattle.exr_sink.specs.declared.lent.LentBuffer.{LentBuffer}

pub record LentKept (s t : LentBuffer) : Type 0 where
  pub lender : t.buffer.ghost_name ≡ s.buffer.ghost_name
  pub long : length t.buffer.now ≡ length s.buffer.now
  pub further : s.at ≤ t.at
  pub behind : drop t.at t.buffer.now ≡ drop t.at s.buffer.now

drop_further : {X : Type 0} (m n : ℕ) (xs ys : List X) → m ≤ n → drop m xs ≡ drop m ys → drop n xs ≡ drop n ys
drop_further m n xs ys h e =
    let r : m + (n - m) ≡ n = add-sub_of_le h in
    sym (drop-drop (n - m) m xs ∙ ap (λ k. drop k xs) r) ∙ ap (drop (n - m)) e ∙ (drop-drop (n - m) m ys ∙ ap (λ k. drop k ys) r)

pub lent_steady : Steady LentKept
lent_steady = record {
  same = λ s. record { lender = refl; long = refl; further = le_refl s.at; behind = refl };
  on = λ s t u h k. record {
    lender = k.lender ∙ h.lender;
    long = k.long ∙ h.long;
    further = le_trans h.further k.further;
    behind = k.behind ∙ drop_further t.at u.at t.buffer.now s.buffer.now k.further h.behind;
  };
}
