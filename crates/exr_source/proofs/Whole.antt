-- Which way it went, by what was answered.
use Rattle.std.proofs.Common.{◌≡◌, Bool, true, false, Ok, Err, refl}
use Rattle.exr_source.specs.Whole.{all_or}

module _ {E : Type 0} where
  pub ok_whole : (b : Bool) (x : Unit {0}) (e : E) → Ok x ≡ all_or b e → b ≡ true
  ok_whole true x e p = refl
  ok_whole false x e p = cc

  pub err_whole : (b : Bool) (d e : E) → Err d ≡ all_or b e → (b ≡ false) × (d ≡ e)
  err_whole true d e p = (cc, cc)
  err_whole false d e p = (refl, cc)
