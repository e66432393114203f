pub mod Today
