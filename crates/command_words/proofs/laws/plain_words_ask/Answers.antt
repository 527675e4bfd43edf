use Rattle.command_words.proofs.WordLemmas.{infer_asks, norm_asks, check_asks, run_asks, lex_asks, loop_asks, session_asks}
use Rattle.command_words.proofs.laws.plain_words_ask.Goals as goal

pub returns-clause-infer : goal.returns-clause-infer
returns-clause-infer c = infer_asks

pub returns-clause-norm : goal.returns-clause-norm
returns-clause-norm c = norm_asks

pub returns-clause-check : goal.returns-clause-check
returns-clause-check c = check_asks

pub returns-clause-run : goal.returns-clause-run
returns-clause-run c = run_asks

pub returns-clause-lex : goal.returns-clause-lex
returns-clause-lex c = lex_asks

pub returns-clause-find_loop : goal.returns-clause-find_loop
returns-clause-find_loop c = loop_asks

pub returns-clause-session : goal.returns-clause-session
returns-clause-session c = session_asks
