-- Pairs and triples, element by element.
use Rattle.std.specs.Prelude.{List, [], ◌∷◌}
use Rattle.exr_vec2.specs.declared.Vec2.{Vec2}

module _ {A B : Type 0} (f : A → B) where
  abbrev pub pair_by : Vec2 A → Vec2 B
  pair_by p = (f p.0, f p.1)

  abbrev pub triple_by : A × A × A → B × B × B
  triple_by t = (f t.0, f t.1, f t.2)

-- in their order
module _ {A : Type 0} where
  abbrev pub alone : A → List A
  alone x = x ∷ []

  abbrev pub both : Vec2 A → List A
  both p = p.0 ∷ p.1 ∷ []

  abbrev pub three : A × A × A → List A
  three t = t.0 ∷ t.1 ∷ t.2 ∷ []
