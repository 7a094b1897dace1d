pub mod FilesAlone
pub mod FirstStage
