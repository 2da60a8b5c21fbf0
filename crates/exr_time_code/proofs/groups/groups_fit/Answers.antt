use Rattle.std.proofs.Common.{rules, ◌≡◌, ℕ, List, [], ◌∷◌, ◌&&◌, refl, ap, ◌∙◌, nat_le}
use Rattle.std.specs.List.{list_all}
use Rattle.std.proofs.lemmas.Iterator.{YieldsList-from_slice}
use Rattle.std.proofs.lemmas.Iterator.Search.{all_from_yields_List}
use borrow.Author.Tests.{tests}
use Rattle.layout.specs.TimeCodes.{few}
use Rattle.exr_time_code.proofs.groups.groups_fit.Goals as goal

few_all : (gs : List ℕ) → list_all (λ g. nat_le g 15) gs ≡ few gs
few_all [] = refl
few_all (g ∷ gs) = ap (λ b. nat_le g 15 && b) (few_all gs)

pub returns : goal.returns
returns c =
    all_from_yields_List (λ g. nat_le g 15) _ _ _ c.all.ensures.ran (YieldsList-from_slice c.args.groups.now cc) (λ x b q k. search (rules, tests)) ∙ few_all c.args.groups.now
