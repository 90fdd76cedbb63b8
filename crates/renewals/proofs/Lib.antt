pub mod RowsFits
pub mod RenewalLaws
pub mod SpineLaws
