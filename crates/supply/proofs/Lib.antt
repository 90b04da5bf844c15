pub mod SupplyLaws
