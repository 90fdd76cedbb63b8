pub mod LabelLaws
pub mod RefusalLaws
pub mod OneMore
pub mod EnteringLaws
pub mod RosterLaws
