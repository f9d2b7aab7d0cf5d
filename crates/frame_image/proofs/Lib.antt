pub mod Tables
pub mod RebuildLemmas
pub mod CountLemmas
pub mod Resealed
