-- To believe, for reading.
-- The numbers of the names that mean something to the reader.
--
-- To believe: all of this file.
use Rattle.std.specs.Prelude.{ℕ, List, codes}
use Rattle.cti_terms.specs.Numbers.{number_of}
use Rattle.prolog_grammar.specs.Placed.{Known}

-- those of the names that the syntax itself makes terms of
abbrev pub known : List (List ℕ) → Known
known names = record { comma = number_of names (codes ","); nil = number_of names (codes "[]"); curly = number_of names (codes "{}"); cell = number_of names (codes ".") }

-- and with them those of the names in an `op` clause
pub record Words : Type 0 where
  pub known : Known
  pub neck : ℕ
  pub op : ℕ
  pub xfx : ℕ
  pub xfy : ℕ
  pub yfx : ℕ
  pub fx : ℕ
  pub fy : ℕ
  pub bar : ℕ

abbrev pub words_of : List (List ℕ) → Words
words_of names = record {
  known = known names;
  neck = number_of names (codes ":-");
  op = number_of names (codes "op");
  xfx = number_of names (codes "xfx");
  xfy = number_of names (codes "xfy");
  yfx = number_of names (codes "yfx");
  fx = number_of names (codes "fx");
  fy = number_of names (codes "fy");
  bar = number_of names (codes "|");
}
