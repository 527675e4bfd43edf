use Rattle.std.proofs.Common.{◌≡◌, [], ◌∷◌, Some, refl, ap, sym, ◌∙◌, arith}
use Rattle.std.specs.ControlFlow.{continue_value}
use Rattle.cert_structure.specs.Order.{size_line}
use Rattle.linear_rows.specs.Members.{In}
use Rattle.linear_rows.specs.Plain.{plain_row, plain_rows}
use Rattle.linear_rows.specs.declared.row.Row.{Row}
use Rattle.termination_model.proofs.Lists.{by_places, from_places, mapped_place, place_below}
use Rattle.termination_model.specs.sizes.Stated.{stated_rows}
use Rattle.cert_checker.proofs.Excludes.{all_mapped}
use Rattle.cert_checker.proofs.FindLaws.{before_ones, finds_fact, finds_item, finds_none}
use Rattle.cert_checker.proofs.FlawLaws.{same_number}
use Rattle.cert_checker.proofs.StatedLaws.{same_kind}
use Rattle.cert_checker.specs.Finding.{IsForeign}
use Rattle.cert_checker.specs.declared.fault.Fault.{Fault}
use Rattle.cert_checker.specs.declared.reason.Reason.TheVariants as reason
use Rattle.cert_checker.proofs.stated_faults.foreign_fault.Goals.{In_ok-kind}
use Rattle.cert_checker.proofs.stated_faults.foreign_fault.Goals as goal

-- the kind of built-in predicates
kind_is : (c : In_ok-kind) → c.args.kind ≡ Some c.in_ok-kind.kind
kind_is c = c.branch-kind.ensures ∙ ap continue_value c.in_ok-kind.is

pub returns-then-not-is_stated-clause-hold : goal.returns-then-not-is_stated-clause-hold
returns-then-not-is_stated-clause-hold c = (
  λ none. cc,
  λ all.
      let stated = by_places (λ r. In r (stated_rows c.in_ok-kind.kind)) (plain_rows c.args.rows.now.list) (all c.in_ok-kind.kind (kind_is (goal.at.returns-then-not-is_stated-clause-hold c).In_ok-kind)) c.loop-i.i (plain_row c.get.result.now)
      (mapped_place plain_row c.args.rows.now.list c.loop-i.i c.get.result.now c.get.ensures) in
      let wrong = c.is_stated.ensures.1 stated in
      let false_now = c.if-not-is_stated.true in
      cc,
)

pub returns-then-not-is_stated-clause-first : goal.returns-then-not-is_stated-clause-first
returns-then-not-is_stated-clause-first c = λ pred b is.
    let rows = c.args.rows.now.list in
    let n = c.loop-i.i in
    let row = c.get.result.now in
    let fault : Fault = record { line = c.saturating_add.result; reason = reason.SizeRow } in
    let own : b ≡ c.in_ok-kind.kind = same_kind c.args.kind b c.in_ok-kind.kind is (kind_is (goal.at.returns-then-not-is_stated-clause-first c).In_ok-kind) in
    rw own
    (finds_item (IsForeign c.in_ok-kind.kind) (λ i x. size_line pred i x ∷ []) (λ x. 1) (λ i x. refl) c.args.line c.saturating_add.result rows n row fault c.get.ensures
    (λ m. omega (arith, c.saturating_add.ensures, before_ones rows n row c.get.ensures))
    (λ j lt x e. (λ why fails. fails.0 (c.loop-i.invariant j lt x e), tt))
    (finds_fact (IsForeign c.in_ok-kind.kind) c.saturating_add.result (size_line pred n row) fault (omega (arith, c.saturating_add.ensures))
    (λ stated. let wrong = c.is_stated.ensures.1 stated in let false_now = c.if-not-is_stated.true in cc, refl) (λ other also. same_number reason.SizeRow other (sym also.1))))

pub returns-clause-hold : goal.returns-clause-hold
returns-clause-hold c = (
  λ none b is.
      let rows = c.args.rows.now.list in
      let own : b ≡ c.in_ok-kind.kind = same_kind c.args.kind b c.in_ok-kind.kind is (kind_is (goal.at.returns-clause-hold c).In_ok-kind) in
      rw own
      (all_mapped plain_row (λ (row : Row). In (plain_row row) (stated_rows c.in_ok-kind.kind)) (λ r. In r (stated_rows c.in_ok-kind.kind)) (λ row h. h) rows
      (from_places (λ (row : Row). In (plain_row row) (stated_rows c.in_ok-kind.kind)) rows (λ i row e. c.loop-i.invariant i (omega (arith, place_below rows i row e)) row e))),
  λ all. refl,
)

pub returns-clause-first : goal.returns-clause-first
returns-clause-first c = λ pred b is.
    let rows = c.args.rows.now.list in
    let own : b ≡ c.in_ok-kind.kind = same_kind c.args.kind b c.in_ok-kind.kind is (kind_is (goal.at.returns-clause-first c).In_ok-kind) in
    rw own
    (finds_none (IsForeign c.in_ok-kind.kind) (λ i x. size_line pred i x ∷ []) (λ x. 1) (λ i x. refl) rows
    (λ j x e. (λ why fails. fails.0 (c.loop-i.invariant j (omega (arith, place_below rows j x e)) x e), tt)))
