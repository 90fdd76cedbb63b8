pub mod WholeTests
