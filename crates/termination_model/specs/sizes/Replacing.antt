-- Private.
-- What replacing gives, for the code, in the words of linear_rows. Nothing here has to be believed.
pub use Rattle.linear_rows.specs.Replacing.{unit_at, column_over, AreColumns, over_columns, IsRowIfFits}
