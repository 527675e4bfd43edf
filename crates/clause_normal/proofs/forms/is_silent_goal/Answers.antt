use Rattle.std.proofs.Common.{◌≡◌, ◌∙◌, ℕ, List, length, sym, ap, arith}
use Rattle.prolog_reader.specs.Names.{name_text}
use Rattle.clause_normal.specs.Words.{is_silent}
use Rattle.clause_normal.proofs.FormLemmas.{silent_fun}
use Rattle.clause_normal.proofs.forms.is_silent_goal.Goals as goal

pub returns-in-Fun : goal.returns-in-Fun
returns-in-Fun c =
    let n : c.len.result ≡ length c.in-Fun.args.items = omega (arith, c.len.ensures, c.in-Fun.args.ok.0) in
    c.is_silent.ensures ∙ ap (λ (x : List ℕ). is_silent x c.len.result) c.text_of.ensures ∙ ap (is_silent (name_text c.args.names.now c.in-Fun.name.0)) n
    ∙ sym (silent_fun c.args.names.now c.args.term.now c.in-Fun.name c.in-Fun.args c.in-Fun.is)
