-- A number taken from a source through the front of an array of eight bytes.
use Rattle.std.proofs.Common.{◌≡◌, ℕ, ◌-◌, ◌%◌, ◌≤◌, leb, ◌++◌, length, take, drop, Ok, sym, ap, ◌∙◌, subst, arith, le-leb, leb-true}
use Rattle.std.proofs.lemmas.List.{length-replicate, take-replicate, drop-replicate, length-take-le, length-append, drop_all, append-nil}
use Rattle.layout.specs.Numbers.{Bytes, EachByte, whole, range}
use Rattle.layout.specs.Streams.{SourceMeaning, after}
use Rattle.exr_source.specs.Requests.{laid}
use Rattle.exr_read.proofs.Filling.{ok_all}
use Rattle.exr_read.specs.Fills.{come, Filled}
use Rattle.exr_io.specs.Reads.{one_or, ReadLe}
use Rattle.exr_io.proofs.Words.{zeros, eight_whole, whole_eight, whole_before_zeros, whole_small}

-- the part lent for the number
abbrev pub lent_front : ℕ → Bytes
lent_front size = take size (zeros 8)

module _ (w size : ℕ) (same : size ≡ w) (few : w ≤ 8) (m : SourceMeaning) (x : Unit {0}) (m' : SourceMeaning) (part : Bytes) (f : Filled m (lent_front size) (Ok x) m' part) where
  abbrev array : Bytes
  array = part ++ drop size (zeros 8)

  lent_is : lent_front size ≡ zeros w
  lent_is = ap (λ n. take n (zeros 8)) same ∙ take-replicate w 8 0 few

  lent_long : length (lent_front size) ≡ w
  lent_long = ap length lent_is ∙ length-replicate w 0

  pub enough : w ≤ length m.bytes
  enough = subst (λ n. n ≤ length m.bytes) lent_long (leb-true (length (lent_front size)) (length m.bytes) (ok_all (leb (length (lent_front size)) (length m.bytes)) x m.stop (length m.bytes) f.answer))

  all : come (length (lent_front size)) m ≡ w
  all = omega (arith, lent_long, enough)

  part_is : part ≡ take w m.bytes
  part_is =
      f.laid_in ∙ ap (λ n. laid n m.bytes (lent_front size)) all
      ∙ ap (λ t. take w m.bytes ++ t) (drop_all w (lent_front size) (omega (arith, lent_long)))
      ∙ append-nil (take w m.bytes)

  behind : drop size (zeros 8) ≡ zeros (8 - w)
  behind = ap (λ n. drop n (zeros 8)) same ∙ drop-replicate w 8 0

  array_is : array ≡ take w m.bytes ++ zeros (8 - w)
  array_is = ap (λ t. t ++ drop size (zeros 8)) part_is ∙ ap (λ t. take w m.bytes ++ t) behind

  array_long : length array ≡ 8
  array_long =
      ap length array_is ∙ length-append (take w m.bytes) (zeros (8 - w))
      ∙ omega (arith, length-take-le w m.bytes enough, length-replicate {A = ℕ} (8 - w) 0, few)

  word_is : EachByte m.bytes → eight_whole array % range w ≡ whole (take w m.bytes)
  word_is h =
      ap (λ n. n % range w) (whole_eight array array_long ∙ ap whole array_is ∙ whole_before_zeros (take w m.bytes) (8 - w))
      ∙ whole_small w m.bytes h enough

  pub taken_number : {X : Type 0} (value : ℕ → X) (v : X) (n : ℕ) → EachByte m.bytes → n ≡ eight_whole array → v ≡ value (n % range w) → ReadLe w value m (Ok v) m'
  taken_number value v n h e is = record {
    answer =
        ap Ok (is ∙ ap value (ap (λ k. k % range w) e ∙ word_is h))
        ∙ sym (ap (λ b. one_or b (value (whole (take w m.bytes))) m.stop) (le-leb w (length m.bytes) enough));
    left = f.left ∙ ap (λ n. after n m) (all ∙ (let k : w ≡ come w m = omega (arith, enough) in k));
  }
