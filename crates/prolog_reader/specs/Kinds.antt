-- Private.
-- The numbers of the names of the kinds of operators. Nothing here has to be believed.
use Rattle.std.specs.Prelude.{ℕ, List, [], ◌∷◌, codes}
use Rattle.prolog_reader.specs.declared.words.Kinds.{Kinds}
use Rattle.prolog_operators.specs.Names.{IsNumber}

-- their texts
abbrev pub kind_words : List (List ℕ)
kind_words = codes "xfx" ∷ codes "xfy" ∷ codes "yfx" ∷ codes "fx" ∷ codes "fy" ∷ []

-- they are these, whatever names come later
pub record AreKinds (names : List (List ℕ)) (k : Kinds) : Type 0 where
  pub xfx : IsNumber names (codes "xfx") k.xfx.0
  pub xfy : IsNumber names (codes "xfy") k.xfy.0
  pub yfx : IsNumber names (codes "yfx") k.yfx.0
  pub fx : IsNumber names (codes "fx") k.fx.0
  pub fy : IsNumber names (codes "fy") k.fy.0
