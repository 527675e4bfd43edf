use Rattle.std.proofs.Common.{◌≡◌, ◌∙◌, sym, subst, ap, List, ℤ, Bool}
use Rattle.simplex.specs.declared.held.Held.{Held}
use Rattle.linear_rows.specs.Showing.{Shows}
use Rattle.polyhedra.specs.Telling.{TellsHead, at_head}
use Rattle.polyhedra.specs.Making.{arity_of, SaysImage}
use Rattle.linear_rows.specs.Plain.{plain_row, plain_rows}
use Rattle.termination_model.specs.chains.ChainRows.{bottom_row}
use Rattle.std.proofs.lemmas.List.{length-map}
use Rattle.size_chains.proofs.Kept.{shows_hold}
use Rattle.size_chains.proofs.Images.{on_image, image_point, empty_point, image_empty}
use Rattle.size_chains.proofs.stepping.step_on.Goals as goal

pub inhabited-requires-clause-on_image : goal.inhabited-requires-clause-on_image
inhabited-requires-clause-on_image g c = on_image g.D.Domain.speaks c.args.system.now c.requires.head (g.D.Domain.listed c.args.image.value) c.args.image.weak c.requires.image

pub inhabited-requires-in-No-clause-on_image : goal.inhabited-requires-in-No-clause-on_image
inhabited-requires-in-No-clause-on_image g c = on_image g.D.Domain.speaks c.args.system.now c.requires.head (g.D.Domain.listed c.args.image.value) c.args.image.weak c.requires.image

pub inhabited-requires-clause-image : goal.inhabited-requires-clause-image
inhabited-requires-clause-image g c =
    let says = subst (λ (b : Bool). SaysImage g.D.Domain.speaks c.args.system.now (g.D.Domain.listed c.args.image.value) b) c.if-image.true c.requires.image in
    empty_point g.D.Domain.speaks c.args.system.now c.requires.head (g.D.Domain.listed c.args.image.value) says.1

pub empty-requires-clause-image : goal.empty-requires-clause-image
empty-requires-clause-image g c =
    let s = c.args.system.now in
    let says = subst (λ (b : Bool). SaysImage g.D.Domain.speaks s (g.D.Domain.listed c.args.image.value) b) c.if-image.false c.requires.image in
    let count : c.len.result ≡ arity_of s = c.len.ensures ∙ sym (length-map s.head.list plain_row) in
    let row : plain_row c.in_ok-bottom.bottom ≡ bottom_row (arity_of s) = c.in_ok-bottom.ensures.row ∙ ap bottom_row count in
    let told = subst (λ (h : Held). TellsHead s (plain_row c.in_ok-bottom.bottom) h) c.in-Yes.is c.in_ok-holds_on.ensures in
    let shows = subst (λ (r : List ℤ). Shows (plain_rows s.rows.list) (at_head s r) c.in-Yes.by) row told in
    image_empty g.D.Domain.speaks s c.requires.head (g.D.Domain.listed c.args.image.value) says (g.met.D.Domain.laws.0 (arity_of s)) (shows_hold s c.requires.system (bottom_row (arity_of s)) c.in-Yes.by shows)

pub inhabited-requires-in-No-clause-image : goal.inhabited-requires-in-No-clause-image
inhabited-requires-in-No-clause-image g c =
    let s = c.args.system.now in
    let told = subst (λ (h : Held). TellsHead s (plain_row c.in_ok-bottom.bottom) h) c.in-No.is c.in_ok-holds_on.ensures in
    image_point g.D.Domain.speaks s c.requires.head (g.D.Domain.listed c.args.image.value) c.args.image.weak c.requires.image (plain_row c.in_ok-bottom.bottom) c.in-No.field-0 told
