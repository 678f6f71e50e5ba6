pub mod KeyCounts
