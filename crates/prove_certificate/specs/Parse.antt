-- Private.
-- What the code reads at the front of a text. It may read more than a fact's text, so each fact that is read is
-- compared with its own text. Nothing here has to be believed.
use Rattle.std.specs.Prelude.{ℕ, List, ◌++◌, codes, Option, Some, None, option_map}
use Rattle.std.specs.List.{list_all}
use Rattle.certificate.specs.Parse.{Read, after, is_amount, kept, ◌or_else◌, read_cell, read_how, read_index, read_integer, read_last, read_list, read_mark, read_place, read_pred}
use Rattle.prove_certificate.specs.Parts.{read_two, read_three, read_four, read_five, read_six}
use Rattle.prove_certificate.specs.Range.{amounts_of}
use Rattle.prove_certificate.specs.declared.kind.CertKind.{CertKind}
use Rattle.prove_certificate.specs.declared.kind.CertKind.TheVariants as kind
use Rattle.prove_certificate.specs.declared.fact.ProveFact.{ProveFact}
use Rattle.prove_certificate.specs.declared.fact.ProveFact.TheVariants as fact

unfoldable pub read_kind : List ℕ → Read CertKind
read_kind s =
    option_map (λ t. (kind.Size, t)) (after (codes "size") s)
    or_else option_map (λ t. (kind.Number, t)) (after (codes "number") s)

-- the facts, each after its word
unfoldable pub read_ctiprove_fact : List ℕ → Read ProveFact
read_ctiprove_fact s = option_map (λ p. (fact.Ctiprove p.0, p.1)) (read_last read_integer s)

unfoldable pub read_terminates_fact : List ℕ → Read ProveFact
read_terminates_fact s = option_map (λ p. (fact.Terminates p.0.0 p.0.1, p.1)) (read_two read_pred (read_list (read_list read_place)) s)

unfoldable pub read_kinds_fact : List ℕ → Read ProveFact
read_kinds_fact s = option_map (λ p. (fact.Kinds p.0.0 p.0.1, p.1)) (read_two read_pred (read_list read_kind) s)

unfoldable pub read_fails_fact : List ℕ → Read ProveFact
read_fails_fact s = option_map (λ p. (fact.Fails p.0, p.1)) (read_last read_pred s)

unfoldable pub read_size_fact : List ℕ → Read ProveFact
read_size_fact s = option_map (λ p. (fact.Size p.0.0 p.0.1 p.0.2, p.1)) (read_three read_pred read_index (read_list read_integer) s)

unfoldable pub read_by_fact : List ℕ → Read ProveFact
read_by_fact s =
    option_map (λ p. (fact.By p.0.0 p.0.1 p.0.2 p.0.3, p.1)) (read_four read_place read_index read_integer (read_list read_integer) s)

unfoldable pub read_grounds_fact : List ℕ → Read ProveFact
read_grounds_fact s = option_map (λ p. (fact.Grounds p.0.0 p.0.1 p.0.2, p.1)) (read_three read_pred read_index (read_list read_cell) s)

unfoldable pub read_level_fact : List ℕ → Read ProveFact
read_level_fact s =
    option_map (λ p. (fact.Level p.0.0 p.0.1 p.0.2 p.0.3 p.0.4, p.1)) (read_five read_pred read_place read_index (read_list read_integer) read_integer s)

unfoldable pub read_drops_fact : List ℕ → Read ProveFact
read_drops_fact s =
    option_map (λ p. (fact.Drops p.0.0 p.0.1 p.0.2 p.0.3 p.0.4 p.0.5, p.1))
    (read_six read_place read_place read_place read_index read_integer (read_list read_integer) s)

unfoldable pub read_floors_fact : List ℕ → Read ProveFact
read_floors_fact s =
    option_map (λ p. (fact.Floors p.0.0 p.0.1 p.0.2 p.0.3 p.0.4, p.1))
    (read_five read_place read_place read_place read_integer (read_list read_integer) s)

unfoldable pub read_pre_fact : List ℕ → Read ProveFact
read_pre_fact s =
    option_map (λ p. (fact.Pre p.0.0 p.0.1 p.0.2 p.0.3, p.1)) (read_four read_pred read_place read_index (read_list read_cell) s)

unfoldable pub read_refuted_fact : List ℕ → Read ProveFact
read_refuted_fact s = option_map (λ p. (fact.Refuted p.0.0 p.0.1, p.1)) (read_two read_pred read_index s)

unfoldable pub read_group_fact : List ℕ → Read ProveFact
read_group_fact s = option_map (λ p. (fact.Group p.0.0 p.0.1, p.1)) (read_two read_place read_place s)

unfoldable pub read_point_fact : List ℕ → Read ProveFact
read_point_fact s =
    option_map (λ p. (fact.Point p.0.0 p.0.1 p.0.2 p.0.3, p.1)) (read_four read_place read_place read_integer (read_list read_integer) s)

unfoldable pub read_floor_fact : List ℕ → Read ProveFact
read_floor_fact s =
    option_map (λ p. (fact.Floor p.0.0 p.0.1 p.0.2 p.0.3, p.1)) (read_four read_place read_place read_integer (read_list read_integer) s)

unfoldable pub read_image_fact : List ℕ → Read ProveFact
read_image_fact s =
    option_map (λ p. (fact.Image p.0.0 p.0.1 p.0.2 p.0.3, p.1)) (read_four read_index read_place read_pred (read_list (read_list read_integer)) s)

unfoldable pub read_step_fact : List ℕ → Read ProveFact
read_step_fact s =
    option_map (λ p. (fact.Step p.0.0 p.0.1 p.0.2 p.0.3, p.1)) (read_four read_index read_pred read_how (read_list (read_list read_integer)) s)

unfoldable pub read_weak_image_fact : List ℕ → Read ProveFact
read_weak_image_fact s = option_map (λ p. (fact.WeakImage p.0, p.1)) (read_mark s)

unfoldable pub read_weak_step_fact : List ℕ → Read ProveFact
read_weak_step_fact s = option_map (λ p. (fact.WeakStep p.0, p.1)) (read_mark s)

unfoldable pub read_blown_fact : List ℕ → Read ProveFact
read_blown_fact s = option_map (λ p. (fact.Blown p.0.0 p.0.1, p.1)) (read_two read_pred (read_list (read_list read_place)) s)

-- what follows a word, or what is read without it
abbrev pub branch : Option (List ℕ) → (List ℕ → Read ProveFact) → Read ProveFact → Read ProveFact
branch None part other = other
branch (Some t) part other = part t

-- the notes
unfoldable pub read_note : List ℕ → Read ProveFact
read_note s =
    branch (after (codes "image(") s) read_image_fact (
    branch (after (codes "step(") s) read_step_fact (
    branch (after (codes "weak(image(") s) read_weak_image_fact (
    branch (after (codes "weak(step(") s) read_weak_step_fact (
    branch (after (codes "blown(") s) read_blown_fact (
    None)))))

-- the facts that show what a mapping or its absence rests on, or notes
unfoldable pub read_other : List ℕ → Read ProveFact
read_other s =
    branch (after (codes "drops(") s) read_drops_fact (
    branch (after (codes "floors(") s) read_floors_fact (
    branch (after (codes "pre(") s) read_pre_fact (
    branch (after (codes "none(") s) read_refuted_fact (
    branch (after (codes "group(") s) read_group_fact (
    branch (after (codes "point(") s) read_point_fact (
    branch (after (codes "floor(") s) read_floor_fact (
    read_note s)))))))

-- the facts on predicates and clauses, or others
unfoldable pub read_any : List ℕ → Read ProveFact
read_any s =
    branch (after (codes "ctiprove(") s) read_ctiprove_fact (
    branch (after (codes "terminates(") s) read_terminates_fact (
    branch (after (codes "kinds(") s) read_kinds_fact (
    branch (after (codes "fails(") s) read_fails_fact (
    branch (after (codes "size(") s) read_size_fact (
    branch (after (codes "by(") s) read_by_fact (
    branch (after (codes "grounds(") s) read_grounds_fact (
    branch (after (codes "level(") s) read_level_fact (
    read_other s))))))))

-- a fact in range
unfoldable pub read_fact : List ℕ → Read ProveFact
read_fact s = kept (λ f. list_all is_amount (amounts_of f)) (read_any s)
