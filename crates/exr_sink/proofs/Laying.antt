-- A buffer that is written from a place on.
use Rattle.std.proofs.Common.{◌≡◌, ℕ, ◌+◌, ◌-◌, ◌≤◌, List, length, drop, arith}
use borrow.Rule.Slice.PartMut.{put_mid}
use Rattle.std.proofs.lemmas.List.{length-take, length-drop, length-append}
use Rattle.std.proofs.lemmas.Slice.{drop-put_mid}

module _ {X : Type 0} (at k : ℕ) (buffer part : List X) (within : at + k ≤ length buffer) (fits : length part ≡ k) where
  pub put_length : length (put_mid at ((at + k) - at) buffer part) ≡ length buffer
  put_length = simp (length-append, length-take, length-drop) (omega arith)

  pub put_behind : drop (at + k) (put_mid at ((at + k) - at) buffer part) ≡ drop (at + k) buffer
  put_behind = drop-put_mid at ((at + k) - at) buffer part (at + k) (omega arith) (omega arith) (omega arith)
