pub mod RowExports
