pub mod InvokerName
