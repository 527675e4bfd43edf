pub mod OwnTransitions
