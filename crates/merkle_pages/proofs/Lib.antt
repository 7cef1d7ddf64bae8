pub mod Words
pub mod LeafLaws
pub mod NodeLaws
pub mod PageLaws
pub mod PartLaws
pub mod PutLaws
pub mod Rising
pub mod WayLaws
