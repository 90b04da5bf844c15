pub mod TransferLaws
