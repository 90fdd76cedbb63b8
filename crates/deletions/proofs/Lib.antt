pub mod DeletionLaws
