use Rattle.prolog_tokens.proofs.NextLemmas.{next_is, no_next, only_next, next_fault}
use Rattle.prolog_tokens.proofs.lexer.longest_match.Goals as goal

pub returns : goal.returns
returns c = record {
  next = next_is;
  none = no_next;
  only = λ c t within h sound. only_next c within t h sound;
  faults = λ c fault within h. next_fault c within fault h;
}
