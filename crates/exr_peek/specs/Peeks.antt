-- What a source with a kept byte means, and what stays of it.
use Rattle.std.specs.Prelude.{◌≡◌, ℕ, ◌<◌, Bool, cond, ◌⊎◌, [], ◌∷◌, length, Some, None, Ok, Err, Option, Result, ◌==◌, refl}
use Rattle.std.proofs.Common.{◌∙◌, inl, inr}
use Rattle.exr_error.specs.declared.stop.Stop.{Stop}
use Rattle.layout.specs.Numbers.{Bytes}
use Rattle.layout.specs.Streams.{SourceMeaning, Proper, kept_before}
use Rattle.exr_peek.specs.declared.peek_read.PeekRead.{PeekRead}
use Rattle.exr_source.specs.Requests.{stop_at}
use Rattle.exr_peek.specs.Kept.{kept_proper}
use Rattle.exr_source.specs.Keeping.{Steady}

-- the kept byte, if there is one, and then what is below
abbrev pub peek_means : {S : Type 0} → (S → SourceMeaning) → PeekRead S → SourceMeaning
peek_means below p = kept_before p.peeked (below p.inner)

pub peek_proper : {S : Type 0} (below : S → SourceMeaning) → ((s : S) → Proper (below s)) → (p : PeekRead S) → Proper (peek_means below p)
peek_proper below proper p = kept_proper p.peeked (below p.inner) p.below (proper p.inner)

-- a kept byte is given alone: one byte comes, none is kept then, and nothing is asked below
abbrev pub AloneAt : {S : Type 0} → Option ℕ → S → Bytes → Result ℕ Stop → PeekRead S → Type 0
AloneAt None inner buffer r t = Unit {0}
AloneAt (Some b) inner buffer r t = 0 < length buffer → (r ≡ Ok 1) × (t.peeked ≡ None) × (t.inner ≡ inner)

abbrev pub Alone : {S : Type 0} → PeekRead S → Bytes → Result ℕ Stop → PeekRead S → Type 0
Alone s buffer r t = AloneAt s.peeked s.inner buffer r t

-- whether the byte that comes next is a given one, and what is to come once such a byte is taken
abbrev pub is_next : Bytes → Option ℕ → ℕ → Result Bool Stop
is_next [] s v = Err (stop_at s)
is_next (b ∷ bs) s v = Ok (b == v)

abbrev pub sans_next : Bytes → ℕ → Bytes
sans_next [] v = []
sans_next (b ∷ bs) v = cond (b == v) bs (b ∷ bs)

-- the source below keeps what it keeps; no byte is kept, or nothing was given
abbrev pub Spent : {S : Type 0} → (S → SourceMeaning) → PeekRead S → PeekRead S → Type 0
Spent below s t = (t.peeked ≡ None) ⊎ ((t.peeked ≡ s.peeked) × (peek_means below t ≡ peek_means below s))

pub record PeekKept {S : Type 0} (below : S → SourceMeaning) (keeps : S → S → Type 0) (s t : PeekRead S) : Type 0 where
  pub inner : keeps s.inner t.inner
  pub spent : Spent below s t

module _ {S : Type 0} (below : S → SourceMeaning) where
  spent_on : (s t u : PeekRead S) → Spent below s t → Spent below t u → Spent below s u
  spent_on s t u p (inl none) = inl none
  spent_on s t u (inl none) (inr q) = inl (q.0 ∙ none)
  spent_on s t u (inr p) (inr q) = inr (q.0 ∙ p.0, q.1 ∙ p.1)

  pub peek_steady : {keeps : S → S → Type 0} → Steady keeps → Steady (PeekKept below keeps)
  peek_steady h = record {
    same = λ s. record { inner = h.same s.inner; spent = inr (refl, refl) };
    on = λ s t u p q. record { inner = h.on s.inner t.inner u.inner p.inner q.inner; spent = spent_on s t u p.spent q.spent };
  }
