-- Private.
-- To believe, for modes over stated facts.
-- Claims are facts: what a program answers keeps its claims.
--
-- So a world that gives answers of a program alone agrees with what is claimed of that program, and the claims that
-- show for one program may be stated of the predicates that another one calls.
--
-- To believe: `facts_of`, `IsAnsweredBy`.
use Rattle.std.specs.Prelude.{◌≡◌, ℕ, Bool, true, List, [], length, Some}
use Rattle.std.specs.List.{AllByRecursion}
use Rattle.cti_terms.specs.declared.atom_list.Atom.{Atom}
use Rattle.cti_terms.specs.declared.derivation.Goal.{Goal}
use Rattle.cti_terms.specs.Derive.{query}
use Rattle.cti_terms.specs.Listing.{Listing, IsProgram}
use Rattle.cti_terms.specs.Unify.{Binding, applied}
use Rattle.cti_terms.specs.Resolve.{over}
use Rattle.cti_terms.specs.Worlds.{Answer, World, reached_in}
use Rattle.termination_model.specs.grounds.Grounds.{HasArity}
use Rattle.termination_model.specs.claims.Claims.{Claims, Shows}
use Rattle.termination_model.specs.claims.StatedFacts.{Stated, Keeps, Agrees, Takes}

-- the size rows and ground rows that are claimed, with these modes, as facts of some predicates
abbrev pub facts_of : Claims → (ℕ → Bool) → (ℕ → List (List ℕ)) → Stated
facts_of c is_open modes = record { is_open = is_open; rows = c.rows; grounds = c.grounds; modes = modes }

-- where a derivation ends, each atom of its goal keeps what is claimed, under the bindings that were made
abbrev pub AnswersKeep : Type 0
AnswersKeep = (p : Listing) (c : Claims) (f : Stated) (w : World) → IsProgram p → Shows p c → Takes c f → Agrees c.size c.truth f p.preds w
    → (past : List ℕ) (g : Goal) → AllByRecursion (λ (a : Atom). HasArity p.preds a.pred.0 (length a.args)) g.atoms
    → (ks : List ℕ) (bs : List Binding) (h : Goal) → reached_in p f.is_open w past g ks ≡ Some (bs, h) → h.atoms ≡ []
    → (is_open : ℕ → Bool) (modes : ℕ → List (List ℕ)) → AllByRecursion (λ (a : Atom). Keeps c.size c.truth (facts_of c is_open modes) (over (applied bs) a)) g.atoms

-- each answer of u to an atom that is open for it is that of a derivation of p in the world w
abbrev pub IsAnsweredBy : Listing → Stated → World → (ℕ → Bool) → World → Type 0
IsAnsweredBy p f w is_open u = (past : List ℕ) (n : ℕ) (a : Atom) → HasArity p.preds a.pred.0 (length a.args) → is_open a.pred.0 ≡ true
    → AllByRecursion (λ (r : Answer). (earlier : List ℕ) × (ks : List ℕ) × (h : Goal) × (reached_in p f.is_open w earlier (query a n) ks ≡ Some (r.0, h)) × (h.atoms ≡ [])) (u past n a)

-- such a world agrees with what is claimed of p
abbrev pub AnswersAgree : Type 0
AnswersAgree = (p : Listing) (c : Claims) (f : Stated) (w u : World) → IsProgram p → Shows p c → Takes c f → Agrees c.size c.truth f p.preds w
    → (is_open : ℕ → Bool) (modes : ℕ → List (List ℕ)) → IsAnsweredBy p f w is_open u → Agrees c.size c.truth (facts_of c is_open modes) p.preds u
