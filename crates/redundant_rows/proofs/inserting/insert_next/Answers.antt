use Rattle.std.proofs.Common.{◌≡◌, List, set, subst, sym}
use Rattle.linear_rows.specs.declared.row.Rows.{Rows}
use Rattle.redundant_rows.specs.declared.mark.Mark.{Mark}
use Rattle.redundant_rows.specs.declared.mark.Mark.TheVariants.{Waiting, Implied}
use Rattle.redundant_rows.specs.Inserting.{IsInsertion, IsNext, AreKnown}
use Rattle.redundant_rows.proofs.InsertionLemmas.{row_implied, known_still}
use Rattle.redundant_rows.proofs.inserting.insert_next.Goals as goal

implied_waits : Implied ≡ Waiting → ⊥
implied_waits e = cc

pub returns-in-None-clause-insertion : goal.returns-in-None-clause-insertion
returns-in-None-clause-insertion c =
    let n = c.args.rows.now.width in
    let all = c.args.rows.now.list in
    let old = c.args.insertion in
    let new = c.without.result in
    let marks : List Mark = set old.marks.items c.args.place Implied in
    let told = subst (IsNext n all old.marks.items old.kept c.args.place) c.in-None.is c.in_ok-next.ensures in
    let implied : IsInsertion n all marks old.kept = row_implied n all old.marks.items old.kept c.args.place told.0 told.1 c.requires.waiting told.2 c.requires.insertion in
    subst (λ (ms : List Mark). IsInsertion n all ms new.kept) (sym c.without.ensures.marks)
    (subst (λ (k : Rows). IsInsertion n all marks k) (sym c.without.ensures.kept) implied)

pub returns-in-None-clause-still : goal.returns-in-None-clause-still
returns-in-None-clause-still c = λ known.
    subst (λ (ms : List Mark). AreKnown ms c.args.place) (sym c.without.ensures.marks)
    (known_still c.args.insertion.marks.items c.args.place c.args.place Implied c.requires.waiting implied_waits known)
