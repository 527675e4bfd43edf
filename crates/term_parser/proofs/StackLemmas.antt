-- Lemmas on the stack of what is open.
use Rattle.std.proofs.Common.{◌≡◌, ℕ, suc, ◌+◌, length, List, [], ◌∷◌, ◌++◌, refl, map, ap, arith, ◌∙◌}
use Rattle.term_parser.specs.declared.part.Part.{Part as CodePart}
use Rattle.term_parser.specs.declared.frame.Open.{Open as CodeOpen}
use Rattle.term_parser.specs.declared.frame.Open.TheVariants as opening
use Rattle.term_parser.specs.declared.frame.Operator.{Operator}
use Rattle.term_parser.specs.declared.frame.Operator.TheVariants as operator
use Rattle.term_parser.specs.declared.frame.Frame.{Frame as CodeFrame}
use Rattle.term_parser.specs.declared.frame.Frame.TheVariants as frame
use Rattle.prolog_grammar.specs.Machine.{Frame}
use Rattle.prolog_grammar.specs.Placed.{Part}
use Rattle.prolog_grammar.specs.Run.{height, inside_height, items_past}
use Rattle.term_parser.specs.Views.{part_view, open_of, operator_frame, frame_of, frames_onto, frames_of, open_openers, frame_openers}

frames_onto_push : (k : List (Frame Part)) (fs : List CodeFrame) (f : CodeFrame) → frames_onto k (fs ++ f ∷ []) ≡ frame_of f ∷ frames_onto k fs
frames_onto_push k [] f = refl
frames_onto_push k (g ∷ fs) f = frames_onto_push (frame_of g ∷ k) fs f

-- a frame that is pushed is on top
pub frames_of_push : (fs : List CodeFrame) (f : CodeFrame) → frames_of (fs ++ f ∷ []) ≡ frame_of f ∷ frames_of fs
frames_of_push fs f = frames_onto_push [] fs f

-- the openers over what follows some items
pub past_parts : (ps : List Part) (h : ℕ) → items_past ps h ≡ length ps + h
past_parts [] h = omega arith
past_parts (p ∷ ps) h = past_parts ps (suc h) ∙ omega arith

length_parts : (ts : List CodePart) → length (map part_view ts) ≡ length ts
length_parts [] = refl
length_parts (t ∷ ts) = ap suc (length_parts ts)

-- one item more is one opener more
pub past_push : (ts : List CodePart) (t : CodePart) (h : ℕ) → items_past (map part_view (ts ++ t ∷ [])) h ≡ suc (items_past (map part_view ts) h)
past_push [] t h = refl
past_push (s ∷ ts) t h = past_push ts t (suc h)

-- what a frame adds to the openers
items_height : (ts : List CodePart) (h : ℕ) → items_past (map part_view ts) (suc h) ≡ length ts + 1 + h
items_height ts h = past_parts (map part_view ts) (suc h) ∙ omega (arith, length_parts ts)

open_height : (o : CodeOpen) (h : ℕ) → inside_height (open_of o) h ≡ open_openers o + h
open_height (opening.Group at) h = omega arith
open_height (opening.Curly at) h = omega arith
open_height (opening.Arguments head parts) h = omega arith
open_height (opening.Items at parts) h = items_height parts.items h
open_height (opening.Tail at parts) h = items_height parts.items h

operator_height : (bound priority : ℕ) (o : Operator) (k : List (Frame Part)) → height (operator_frame bound priority o ∷ k) ≡ 1 + height k
operator_height bound priority (operator.Infix name left) k = omega arith
operator_height bound priority (operator.Prefix at name) k = omega arith

pub frame_height : (f : CodeFrame) (k : List (Frame Part)) → height (frame_of f ∷ k) ≡ frame_openers f + height k
frame_height (frame.Operator bound priority o) k = operator_height bound priority o k
frame_height (frame.Open bound o) k = open_height o (height k)
