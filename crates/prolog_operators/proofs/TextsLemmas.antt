-- Names that are put to a list in order.
use Rattle.std.proofs.Common.{◌≡◌, ℕ, List, [], ◌∷◌, ◌++◌, refl, ap, sym, ◌∙◌}
use Rattle.cti_terms.specs.Numbers.{with_text}
use Rattle.prolog_operators.specs.Names.{Extends}
use Rattle.prolog_operators.specs.Texts.{with_names}
use Rattle.prolog_operators.proofs.NameLemmas.{extends_self, extends_trans, extends_with_text}

pub names_none : (names : List (List ℕ)) → with_names names [] ≡ names
unfolding with_names
names_none names = refl

pub names_one : (names : List (List ℕ)) (t : List ℕ) → with_names names (t ∷ []) ≡ with_text names t
unfolding with_names
names_one names t = refl

pub names_more : (names : List (List ℕ)) (ts us : List (List ℕ)) → with_names names (ts ++ us) ≡ with_names (with_names names ts) us
unfolding with_names
names_more names [] us = refl
names_more names (t ∷ ts) us = names_more (with_text names t) ts us

-- the names that were there stay
pub names_stay : (names : List (List ℕ)) (ts : List (List ℕ)) → Extends names (with_names names ts)
unfolding with_names
names_stay names [] = extends_self names
names_stay names (t ∷ ts) = extends_trans names (with_text names t) (with_names (with_text names t) ts) (extends_with_text names t) (names_stay (with_text names t) ts)

-- names put after names that were put
pub names_then : (x y z : List (List ℕ)) (ts us : List (List ℕ)) → y ≡ with_names x ts → z ≡ with_names y us → z ≡ with_names x (ts ++ us)
names_then x y z ts us h k = k ∙ ap (λ n. with_names n us) h ∙ sym (names_more x ts us)
