use Rattle.std.proofs.Common.{refl}
use Rattle.prolog_reader.specs.Meanings.{table_of}
use Rattle.cti_top.proofs.lexing.lex_of.Goals as goal

pub returns : goal.returns
returns c =
    let s = c.args.source.now in
    let certificate = c.in_ok-certificate in (
      refl,
      λ bytes is. record {
        names = s.names;
        program = s.program;
        table = table_of s.ops;
        is = is;
        facts = certificate.certificate.facts;
        printed = c.in_ok-print.ensures;
        valid = certificate.ensures.valid;
        exact = certificate.ensures.exact;
        bounded = certificate.ensures.bounded;
      },
    )
