use Rattle.ld_resolver.proofs.first_argument.is_skipped.Goals as goal

pub returns-in-Some : goal.returns-in-Some
returns-in-Some c = λ yes p chain fresh.
    let at = c.in-Some.ensures p chain in
    (at.0, at.1, c.is_ruled_out.ensures yes fresh at.0 at.2)
